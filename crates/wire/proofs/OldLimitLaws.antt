-- Images saved under the old limit (document 02, slip 6). First that reading with today's limit as the parameter is what the call returns (`read_as_now`);
-- then that what is accepted under one limit and keeps within another is read as the same contents under that one (`read_within`), and that what is
-- accepted keeps within; from these: "Images saved under the old limit mean the same." (`old_image`), and which images they are (`old_image_accepted`).
-- Assumes nothing.
use Prim.Native.Nat.{ℕ, ◌≤◌}
use native.Mathlib.Omega.{arith}
use mathlib.Core.Bool.{Bool, true, false, cond, ◌&&◌, and-true}
use mathlib.Core.List.{List, [], ◌∷◌}
use mathlib.Core.Path.{◌≡◌, refl, sym, ap, ◌∙◌}
use borrow.Author.Tests.{le-leb, leb-true, eqb-true, eq-eqb}
use lib.Dec.{leb, eqb}
use lib.ListN.{length, drop, drop_of_length-le}
use lib.Seq.{take-length}
use Rattle.keys.specs.Store.{limit, store_of, in_order, rising}
use Rattle.keys.specs.Lent.{ordered_in}
use Rattle.keys.proofs.Tests.{and_left, and_right, and_both}
use Rattle.keys.proofs.LentLaws.{ordered_in_all}
use Rattle.claims.specs.declared.claim.Claim.{Claim}
use Rattle.claims.specs.Question.{first_no, settle, question2, question4, question5}
use Rattle.claims.specs.Call.{judged_formerly}
use Rattle.claims.specs.Reply.{ends}
use Rattle.claims.proofs.QuestionLaws.{first_no_yes, first_no_zero, settle_number}
use Rattle.rule.specs.Table.{table_limit, climbs}
use Rattle.rule.specs.Node.{holds_all, all_fit, saved_in_order}
use Rattle.rule.proofs.NodeLaws.{saved_in_order_node_of, empty_node_node_of}
use Rattle.wire.specs.Claim.{count_width}
use Rattle.wire.specs.Answer.{Imaged}
use Rattle.wire.specs.Run.{key, claim, Each}
use Rattle.wire.specs.Image.{key_section, sections, count_of, behind, count_fits, counts_fit, told_length, question14, Contents, parse, node_from, used}
use Rattle.wire.specs.Image.{read_image_questions, no_image, read_image}
use Rattle.wire.specs.Sizes.{AsTold}
use Rattle.wire.specs.OldLimit.{old_limit, sections_under, question14_under, question3_under, judged_under, all_fit_under, question1_under}
use Rattle.wire.specs.OldLimit.{Read, nothing_read, questions_under, read_under, imaged_as, CountsTo, Within}
use Rattle.wire.proofs.RunLaws.{length_read_run}
use Rattle.wire.proofs.ImageLaws.{count_fits_of, count_fits_yes}
use Rattle.wire.proofs.SizesLaws.{told_room}

-- ---- today's limit

all_fit_under_now : (t : List Claim) (l : List ℕ) → all_fit_under limit t l ≡ all_fit t l
unfolding judged_formerly
all_fit_under_now [] l = refl
all_fit_under_now (c ∷ cs) l = rw (all_fit_under_now cs l)

-- keys that are no more than the limit are in order as a store when they rise
in_order_rises : (l : List ℕ) → length l ≤ limit → in_order (store_of l) ≡ rising l
unfolding ordered_in
in_order_rises l few =
    let le : length l ≤ length l = omega arith in
    let none : drop (length l) l ≡ [] = drop_of_length-le l le in
    sym (ordered_in_all l) ∙ rw (le-leb (length l) limit few, le-leb (length l) (length l) le, take-length l, none, and-true (rising l))

module _ (bs : List ℕ) where
  module _ (yes : (question14 bs).yes ≡ true) where
    told : AsTold bs (count_of bs) (count_of (behind key_section bs))
    told =
        let same = eqb (length bs) (told_length sections bs) in
        record {
          counts = and_left (counts_fit sections bs) same yes;
          whole = eqb-true (length bs) (told_length sections bs) (and_right (counts_fit sections bs) same yes);
          keys = refl;
          pending = refl;
        }

    few_keys : length (parse bs).keys ≤ limit
    unfolding parse
    few_keys = rw (length_read_run key (count_of bs) (drop count_width bs)) (told_room told).0

    few_claims : length (parse bs).pending ≤ table_limit
    unfolding parse
    few_claims = rw (length_read_run claim (count_of (behind key_section bs)) (drop count_width (behind key_section bs))) (told_room told).1

    -- 1 of the node that the bytes hold is 1 of its keys and claims
    same_1 : saved_in_order (node_from (parse bs)) ≡ (question1_under limit (parse bs)).yes
    same_1 =
        let l = (parse bs).keys in
        let t = (parse bs).pending in
        saved_in_order_node_of l t ∙ rw (in_order_rises l few_keys, le-leb (length t) table_limit few_claims, all_fit_under_now t l)

  same_number : first_no (read_image_questions bs) ≡ first_no (questions_under limit bs)
  same_number = go (question14 bs).yes refl
    where
      go : (t : Bool) → (question14 bs).yes ≡ t → first_no (read_image_questions bs) ≡ first_no (questions_under limit bs)
      go true e = rw (same_1 e)
      go false e = rw e

settled_alike : (n : ℕ) (u : Contents)
    → settle n (record { number = 0; node = node_from u }) no_image ≡ imaged_as (settle n (record { number = 0; contents = u }) nothing_read)
settled_alike n u = go (eqb n 0)
  where
    go : (t : Bool) → cond t (record { number = 0; node = node_from u }) (no_image n) ≡ imaged_as (cond t (record { number = 0; contents = u }) (nothing_read n))
    go true = refl
    go false = λ i. record { number = n; node = empty_node_node_of i }

-- With today's limit this is what the call returns, for any bytes.
pub read_as_now : (bs : List ℕ) → read_image bs ≡ imaged_as (read_under limit bs)
unfolding read_image read_under
read_as_now bs = rw (same_number bs) (settled_alike (first_no (questions_under limit bs)) (used (parse bs)))

-- ---- another limit

module _ (m n : ℕ) where
  judged_within : (c : Claim) → judged_under m c ≡ 0 → c.cnt ≤ n → judged_under n c ≡ 0
  judged_within c h few =
      let last = question4 c ∷ question5 c ∷ [] in
      let (two, h₁) = first_no_zero (question2 c) (question3_under m c ∷ last) (omega arith) h in
      let (three, h₂) = first_no_zero (question3_under m c) last (omega arith) h₁ in
      let some = and_left (leb 1 c.cnt) (leb c.cnt m) three in
      let still = and_both (leb 1 c.cnt) (leb c.cnt n) some (le-leb c.cnt n few) in
      first_no_yes (question2 c) (question3_under n c ∷ last) two ∙ (first_no_yes (question3_under n c) last still ∙ h₂)

  all_fit_within : (t : List Claim) (l : List ℕ) → all_fit_under m t l ≡ true → Each (CountsTo n) t → all_fit_under n t l ≡ true
  all_fit_within [] l h few = refl
  all_fit_within (c ∷ cs) l h (few, rest-few) =
      let passes = eqb (judged_under m c) 0 in
      let held = holds_all (ends c) l in
      let rest = and_right passes (held && all_fit_under m cs l) h in
      let still = judged_within c (eqb-true (judged_under m c) 0 (and_left passes (held && all_fit_under m cs l) h)) few in
      and_both (eqb (judged_under n c) 0) (held && all_fit_under n cs l) (eq-eqb (judged_under n c) 0 still)
      (and_both held (all_fit_under n cs l) (and_left held (all_fit_under m cs l) rest)
      (all_fit_within cs l (and_right held (all_fit_under m cs l) rest) rest-few))

  question1_within : (c : Contents) → (question1_under m c).yes ≡ true → Each (CountsTo n) c.pending → (question1_under n c).yes ≡ true
  question1_within c h few =
      let rises = rising c.keys in
      let climb = climbs c.pending in
      let fit = all_fit_under m c.pending c.keys in
      let rest = and_right rises (climb && fit) h in
      let still = all_fit_within c.pending c.keys (and_right climb fit rest) few in
      and_both rises (climb && all_fit_under n c.pending c.keys) (and_left rises (climb && fit) h)
      (and_both climb (all_fit_under n c.pending c.keys) (and_left climb fit rest) still)

  question14_within : (bs : List ℕ) → (question14_under m bs).yes ≡ true → count_of bs ≤ n → (question14_under n bs).yes ≡ true
  unfolding counts_fit told_length
  question14_within bs h few =
      let same = eqb (length bs) (told_length (sections_under m) bs) in
      let behind_fit = count_fits table_limit (behind key_section bs) && true in
      let counts = and_left (counts_fit (sections_under m) bs) same h in
      let there = (count_fits_yes m bs (and_left (count_fits m bs) behind_fit counts)).0 in
      and_both (counts_fit (sections_under n) bs) same
      (and_both (count_fits n bs) behind_fit (count_fits_of n bs there few) (and_right (count_fits m bs) behind_fit counts))
      (and_right (counts_fit (sections_under m) bs) same h)

-- what is accepted under some limit has passed 14 and 1
accepted_yes : (m : ℕ) (bs : List ℕ) → (read_under m bs).number ≡ 0 → ((question14_under m bs).yes ≡ true) × ((question1_under m (parse bs)).yes ≡ true)
unfolding read_under
accepted_yes m bs done =
    let number = settle_number (λ (r : Read). r.number) (first_no (questions_under m bs)) _ nothing_read refl (λ (k : ℕ). refl) in
    let (fourteen, h) = first_no_zero (question14_under m bs) (question1_under m (parse bs) ∷ []) (omega arith) (sym number ∙ done) in
    (fourteen, (first_no_zero (question1_under m (parse bs)) [] (omega arith) h).0)

-- What is accepted under one limit and keeps within another is accepted under that one too, and read as the same contents: whichever of them is the higher.
pub read_within : (m n : ℕ) (bs : List ℕ) → (read_under m bs).number ≡ 0 → Within n bs → read_under n bs ≡ read_under m bs
unfolding read_under
read_within m n bs done (few, counted) =
    let (fourteen, one) = accepted_yes m bs done in
    rw (fourteen, one, question14_within m n bs fourteen few, question1_within m n (parse bs) one counted)

-- ---- what was accepted keeps within the limit

counted_to : (m : ℕ) (t : List Claim) (l : List ℕ) → all_fit_under m t l ≡ true → (n : ℕ) → m ≤ n → Each (CountsTo n) t
counted_to m [] l h n more = tt
counted_to m (c ∷ cs) l h n more =
    let passes = eqb (judged_under m c) 0 in
    let held = holds_all (ends c) l in
    let rest = and_right passes (held && all_fit_under m cs l) h in
    let zero = eqb-true (judged_under m c) 0 (and_left passes (held && all_fit_under m cs l) h) in
    let last = question4 c ∷ question5 c ∷ [] in
    let h₁ = (first_no_zero (question2 c) (question3_under m c ∷ last) (omega arith) zero).1 in
    let three = (first_no_zero (question3_under m c) last (omega arith) h₁).0 in
    let few = leb-true c.cnt m (and_right (leb 1 c.cnt) (leb c.cnt m) three) in
    (omega arith, counted_to m cs l (and_right held (all_fit_under m cs l) rest) n more)

accepted_within : (m n : ℕ) → m ≤ n → (bs : List ℕ) → (read_under m bs).number ≡ 0 → Within n bs
unfolding counts_fit
accepted_within m n more bs done =
    let (fourteen, one) = accepted_yes m bs done in
    let same = eqb (length bs) (told_length (sections_under m) bs) in
    let counts = and_left (counts_fit (sections_under m) bs) same fourteen in
    let few = (count_fits_yes m bs (and_left (count_fits m bs) (count_fits table_limit (behind key_section bs) && true) counts)).1 in
    let rises = rising (parse bs).keys in
    let climb = climbs (parse bs).pending in
    let fit = all_fit_under m (parse bs).pending (parse bs).keys in
    (omega arith, counted_to m (parse bs).pending (parse bs).keys (and_right climb fit (and_right rises (climb && fit) one)) n more)

-- ---- the theorems

-- "Images saved under the old limit mean the same": one that was accepted under it is accepted now, and read as the node of the contents that it was read
-- as then, without the claims that slip 2 leaves out.
pub old_image : (bs : List ℕ) → (read_under old_limit bs).number ≡ 0 → read_image bs ≡ imaged_as (read_under old_limit bs)
old_image bs done = read_as_now bs ∙ ap imaged_as (read_within old_limit limit bs done (accepted_within old_limit limit (omega arith) bs done))

-- Which images those are: all that are accepted now and keep within the old limit.
pub old_image_accepted : (bs : List ℕ) → (read_image bs).number ≡ 0 → Within old_limit bs → (read_under old_limit bs).number ≡ 0
old_image_accepted bs done within =
    let now : (read_under limit bs).number ≡ 0 = sym (ap (λ (r : Imaged). r.number) (read_as_now bs)) ∙ done in
    ap (λ (r : Read). r.number) (read_within limit old_limit bs now within) ∙ now
