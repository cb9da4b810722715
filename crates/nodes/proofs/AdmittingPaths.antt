-- What an image holds, admitted (src/admitting.rt): one law for each way that the code goes. In order: the loop that leaves out; what is then admitted.
-- Assumes nothing.
use mathlib.Core.Path.{◌≡◌, refl, sym, ◌∙◌, ap, ap₂}
use mathlib.Core.Bool.{Bool, true, false, cond}
use mathlib.Core.List.{List, [], ◌∷◌, ◌++◌, append-nil, append_assoc}
use Prim.Native.Nat.{ℕ, suc, ◌+◌, ◌-◌, ◌≤◌, ◌<◌}
use native.Mathlib.Numerals.{add-one}
use native.Mathlib.Omega.{arith}
use borrow.Author.Tests.{leb-true}
use lib.Dec.{leb}
use lib.ListN.{length, take, drop, get_or, set, length-append, take-append-drop}
use lib.Seq.{take-suc, drop-cons, get_or_at, length-take-le}
use Rattle.std.proofs.Common.{Ok, Err}
use Rattle.keys.specs.Place.{put_at}
use Rattle.keys.proofs.Tests.{and_left}
use Rattle.keys.proofs.PlaceLaws.{put_at_nil, put_at_zero, set_front, set_written}
use Rattle.claims.specs.declared.claim.Claim.{Claim}
use Rattle.claims.specs.declared.refusal.Refusal.TheVariants.{OutOfOrder}
use Rattle.claims.specs.Claim.{no_claim}
use Rattle.claims.specs.Question.{question16}
use Rattle.rule.specs.declared.answer.Rest.{Rest as Beside}
use Rattle.rule.specs.declared.node.Table.{Table}
use Rattle.rule.specs.Answer.{rest_given, rest_by}
use Rattle.rule.specs.Table.{table_limit}
use Rattle.rule.specs.Node.{blanks, table_by, all_tell, telling, node_of, saved_in_order}
use Rattle.rule.proofs.NodeLaws.{telling_snoc, telling_all, length_blanks, blanks_suc, blanks_snoc}
use Rattle.nodes.specs.declared.order.Order.TheVariants.{Out, Saved, Given}
use Rattle.nodes.specs.Lent.{order_of, front_in, left_out, table_left, rest_left, admit_in}

-- ---- leaving out

-- Before claim i, with `kept` claims kept: these stand in front, and zeros where the others stood.
pub record Leaving (table : List Claim) (count i kept : ℕ) (places : List Claim) : Type 0 where
  pub passed : i ≤ count
  pub few : kept ≤ i
  pub many : kept ≡ length (telling (take i table))
  pub laid : places ≡ left_out table i

pub leaving_none : (table : List Claim) (count : ℕ) → Leaving table count 0 0 table
unfolding blanks
leaving_none table count = record { passed = omega arith; few = omega arith; many = refl; laid = sym (put_at_nil table 0) }

-- a turn: the place of claim i is made zeros, and the claim is kept if it passes 16
module _ (table : List Claim) (count : ℕ) (few : count ≤ table_limit) (whole : length table ≡ table_limit) {i kept : ℕ} {places : List Claim}
    (left : Leaving table count i kept places) (inside : i < count) where
  -- those kept so far, and the claim at i
  abbrev front : List Claim
  front = telling (take i table)

  abbrev c : Claim
  c = get_or table i no_claim

  kept_few : length front ≤ i
  kept_few = omega (arith, left.few, left.many)

  -- what was written so far has i places, so the claim is still there
  long : length (front ++ blanks (i - length front)) ≡ i
  long = omega (arith, length-append front (blanks (i - length front)), length_blanks (i - length front), kept_few)

  claim_is : get_or places i no_claim ≡ c
  claim_is =
      let xs = front ++ blanks (i - length front) in
      rw (left.laid, put_at_zero table xs, long, drop-cons table i no_claim (omega arith)) (get_or_at xs c (drop (suc i) table) no_claim i long)

  blanked : set places i no_claim ≡ put_at table 0 (front ++ blanks (suc (i - length front)))
  blanked =
      let xs = front ++ blanks (i - length front) in
      ap (λ (l : List Claim). set l i no_claim) left.laid
      ∙ (set_front xs table no_claim i long (omega arith)
      ∙ ap (put_at table 0) (append_assoc front (blanks (i - length front)) (no_claim ∷ []) ∙ ap (λ (l : List Claim). front ++ l) (blanks_snoc (i - length front))))

  module _ {told : Bool} (asked : told ≡ (question16 (get_or places i no_claim)).yes) where
    next_is : {t : Bool} → told ≡ t → telling (take (i + 1) table) ≡ front ++ cond t (c ∷ []) []
    next_is e =
        let one : take (i + 1) table ≡ take i table ++ (c ∷ []) = rw (add-one i) (take-suc table i no_claim (omega arith)) in
        let tested = sym (asked ∙ ap (λ (x : Claim). (question16 x).yes) claim_is) ∙ e in
        ap telling one ∙ (telling_snoc (take i table) c ∙ ap (λ (b : Bool). front ++ cond b (c ∷ []) []) tested)

    pub leaving_kept : told ≡ true → Leaving table count (i + 1) (kept + 1) (set (set places i no_claim) kept (get_or places i no_claim))
    leaving_kept e =
        let next = next_is e in
        let more : length (telling (take (i + 1) table)) ≡ suc (length front) = ap length next ∙ (length-append front (c ∷ []) ∙ omega arith) in
        let spare : i - length front ≡ i + 1 - length (telling (take (i + 1) table)) = omega (arith, more, kept_few) in
        let filled : put_at table 0 (front ++ c ∷ blanks (i - length front)) ≡ left_out table (i + 1) =
        ap (put_at table 0) (sym (append_assoc front (c ∷ []) (blanks (i - length front))) ∙ ap₂ (λ (l : List Claim) (n : ℕ). l ++ blanks n) (sym next) spare) in
        record {
          passed = omega arith;
          few = omega (arith, left.few);
          many = omega (arith, more, left.many);
          laid = rw (claim_is, blanked, blanks_suc (i - length front)) (set_written front (blanks (i - length front)) table no_claim c kept (sym left.many) ∙ filled);
        }

    pub leaving_out : told ≡ false → Leaving table count (i + 1) kept (set places i no_claim)
    leaving_out e =
        let next : telling (take (i + 1) table) ≡ front = next_is e ∙ append-nil front in
        let spare : suc (i - length front) ≡ i + 1 - length (telling (take (i + 1) table)) = omega (arith, ap length next, kept_few) in
        record {
          passed = omega arith;
          few = omega (arith, left.few);
          many = left.many ∙ ap length (sym next);
          laid = blanked ∙ ap (put_at table 0) (ap₂ (λ (l : List Claim) (n : ℕ). l ++ blanks n) (sym next) spare);
        }

pub leaving_done : (table : List Claim) (count : ℕ) {i kept : ℕ} {places : List Claim} → Leaving table count i kept places → count ≤ i
    → table_by places kept ≡ table_left table count
leaving_done table count {i} left past =
    let all : i ≡ count = omega (arith, left.passed) in
    let laid = left.laid ∙ ap (left_out table) all in
    let many = left.many ∙ ap (λ (m : ℕ). length (telling (take m table))) all in
    λ j. table_by (laid j) (many j)

-- ---- what is admitted

-- where every claim passes 16, the table is as it was
pub left_out_all : (table : List Claim) (count : ℕ) → all_tell (take count table) ≡ true → count ≤ length table
    → (left_out table count ≡ table) × (length (telling (take count table)) ≡ count)
unfolding blanks
left_out_all table count all fits =
    let same : telling (take count table) ≡ take count table = telling_all (take count table) all in
    let many : length (telling (take count table)) ≡ count = ap length same ∙ length-take-le count table fits in
    let none : count - length (telling (take count table)) ≡ 0 = omega (arith, many) in
    let whole : telling (take count table) ++ blanks (count - length (telling (take count table))) ≡ take count table =
    ap₂ (λ (l : List Claim) (n : ℕ). l ++ blanks n) same none ∙ append-nil (take count table) in (
      ap (put_at table 0) whole
          ∙ (put_at_zero table (take count table) ∙ (ap (λ (n : ℕ). take count table ++ drop n table) (length-take-le count table fits) ∙ take-append-drop count table)),
      many,
    )

-- what an order says of the two judgements that it is made of
out_is : (s t : Bool) → Out ≡ order_of s t → s ≡ false
out_is true true e = cc
out_is true false e = cc
out_is false t e = refl

saved_is : (s t : Bool) → Saved ≡ order_of s t → s ≡ true
saved_is true t e = refl
saved_is false t e = cc

given_is : (s t : Bool) → Given ≡ order_of s t → (s ≡ true) × (t ≡ true)
given_is true true e = (refl, refl)
given_is true false e = cc
given_is false t e = cc

module _ (keys : List ℕ) (r : Beside) where
  abbrev table : List Claim
  table = r.pending.claims

  abbrev count : ℕ
  count = r.pending.count

  -- as one in an image, and as one that is given
  abbrev saved : Bool
  saved = front_in keys table count

  abbrev told : Bool
  told = all_tell (take count table)

  pub admit_out : Out ≡ order_of saved told → rest_by r (Err OutOfOrder) ≡ admit_in keys (rest_given r)
  unfolding admit_in
  admit_out e = rw (out_is saved told e)

  -- the claims are those of a table
  few : saved ≡ true → count ≤ table_limit
  few e = leb-true count table_limit (and_left (leb count table_limit) (saved_in_order (node_of keys (take count table))) e)

  pub admit_few : Saved ≡ order_of saved told → count ≤ table_limit
  admit_few e = few (saved_is saved told e)

  admitted : saved ≡ true → rest_left r.held table count ≡ admit_in keys (rest_given r)
  unfolding admit_in
  admitted e = rw e

  pub admit_left : Saved ≡ order_of saved told → {t : Table} → t ≡ table_left table count
      → rest_by r (Ok (record { held = r.held; pending = t })) ≡ admit_in keys (rest_given r)
  admit_left e f = (λ j. rest_given (record { held = r.held; pending = f j })) ∙ admitted (saved_is saved told e)

  pub admit_given : Given ≡ order_of saved told → length table ≡ table_limit → rest_by r (Ok r) ≡ admit_in keys (rest_given r)
  admit_given e whole =
      let (one, all) = given_is saved told e in
      let (laid, many) = left_out_all table count all (rw whole (few one)) in
      (λ j. record { number = 0; held = r.held; table = sym laid j; count = sym many j }) ∙ admitted one
