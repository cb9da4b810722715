-- Two nodes in one as the code does it (src/joining.rt): one law for each way that the code goes, in its order. What it means is in JoiningLaws.
-- The walk is that of `merging`, proofs/Walk. Assumes nothing.
use Prim.Native.Nat.{ℕ, ◌+◌, ◌-◌, ◌≤◌, ◌<◌, min}
use native.Mathlib.Numerals.{add-one}
use native.Mathlib.Omega.{arith}
use mathlib.Core.Bool.{Bool, true, false, cond, not, false≢true}
use mathlib.Core.List.{List, [], ◌∷◌, ◌++◌, append-nil}
use mathlib.Core.Logic.{◌⊎◌, inl, inr}
use mathlib.Core.Path.{◌≡◌, refl, sym, ap, ap₂, ◌∙◌}
use borrow.Author.Tests.{le-leb, lt-leb, eq-eqb}
use lib.Dec.{ltb}
use lib.ListN.{length, take, drop, get_or, set, length-set, length-take, drop_of_length-le}
use lib.Seq.{length-take-le, take_all, take-length}
use mir.Val.{bool_byte}
use borrow.Rule.Slice.PartMut.{put_mid}
use Rattle.std.proofs.Common.{Ok, Err}
use Rattle.keys.specs.Store.{limit}
use Rattle.keys.specs.Place.{put_at}
use Rattle.keys.proofs.PlaceLaws.{put_at_nil, put_at_cons, slice_rest}
use Rattle.claims.specs.declared.claim.Claim.{Claim}
use Rattle.claims.specs.Reply.{same}
use Rattle.claims.specs.declared.refusal.Refusal.TheVariants.{UnionBeyondLimit}
use Rattle.claims.specs.Claim.{no_claim}
use Rattle.rule.specs.declared.answer.Rest.{Rest as Beside}
use Rattle.rule.specs.declared.node.Table.{Table}
use Rattle.rule.specs.Answer.{Taken, rest_given, rest_by}
use Rattle.rule.specs.Table.{table_limit, before}
use Rattle.rule.specs.Node.{blanks}
use Rattle.rule.proofs.NodeLaws.{length_blanks}
use Rattle.rule.proofs.TableLaws.{before_trans}
use Rattle.merging.specs.Merge.{merged, merged_in}
use Rattle.merging.proofs.Walk.{Walked, Turned, walk_start, walk_first, walk_second, walk_same, walk_end}
use Rattle.nodes.specs.Lent.{Enlisted, node_held, taken_beside}
use Rattle.nodes.specs.Joining.{tables_in, CopiedBehind, join_in}
use Rattle.nodes.proofs.LentLaws.{before_not_same}
use Rattle.nodes.proofs.TakingPaths.{take_least}

-- ---- the next of two claims

-- a claim is itself
same_itself : (c : Claim) → same c c ≡ true
same_itself c = rw (eq-eqb c.lo c.lo refl, eq-eqb c.hi c.hi refl, eq-eqb c.sum c.sum refl, eq-eqb c.cnt c.cnt refl)

-- of two, only one comes before the other
before_asym : (c d : Claim) → before c d ≡ true → before d c ≡ false
before_asym c d h = go (before d c) refl
  where
    go : (t : Bool) → before d c ≡ t → t ≡ false
    go true e = absurd (false≢true (sym (before_not_same c c (before_trans c d c h e)) ∙ same_itself c))
    go false e = refl

-- ---- claims copied behind others

pub appended : (table claims : List Claim) (at : ℕ) {more : ℕ} → more ≡ min (length claims) (table_limit - at) → at ≤ table_limit
    → CopiedBehind table at (take (table_limit - at) claims) (put_mid at (at + more - at) table (take more claims)) (at + more)
unfolding put_at
appended table claims at {more} told few =
    let many : at + more - at ≡ more = omega arith in
    let same : take more claims ≡ take (table_limit - at) claims =
    ap (λ (n : ℕ). take n claims) told
    ∙ (sym (take_least (table_limit - at) (length claims) claims)
    ∙ ap (take (table_limit - at)) (take-length claims)) in
    let long : length (take more claims) ≡ more = length-take-le more claims (omega arith) in
    record { places = rw (many, ← same, long); many = rw (← same, long) }

-- ---- two tables merged: as many as there are places for of what is left of both, merged and written behind what is, give what is to come out

pub record Merging (one other places : List Claim) (i j n : ℕ) : Type 0 where
  pub walked : Walked before one other i j n
  pub few : n ≤ table_limit
  pub long : length places ≡ table_limit
  pub left : put_at places n (take (table_limit - n) (merged before (drop i one) (drop j other))) ≡ put_at (blanks table_limit) 0 (tables_in one other)

take_none : (xs : List Claim) (m : ℕ) → m ≡ 0 → take m xs ≡ []
take_none xs m e = rw e

take_next : (x : Claim) (xs : List Claim) (m k : ℕ) → m ≡ k + 1 → take m (x ∷ xs) ≡ x ∷ take k xs
take_next x xs m k e = rw (e, add-one k)

module _ (one other : List Claim) where
  pub merging_start : Merging one other (blanks table_limit) 0 0 0
  unfolding tables_in
  merging_start = record { walked = walk_start before one other; few = omega arith; long = length_blanks table_limit; left = refl }

  module _ {places : List Claim} {i j n : ℕ} (so : Merging one other places i j n) where
    -- a turn: by what comparing the two claims said, in both directions
    module _ (room : n < table_limit) (more_one : i ≡ length one → ⊥) (more_other : j ≡ length other → ⊥) where
      abbrev a : Claim
      a = get_or one i no_claim

      abbrev b : Claim
      b = get_or other j no_claim

      in_one : i < length one
      in_one = omega (arith, so.walked.left_in, more_one)

      in_other : j < length other
      in_other = omega (arith, so.walked.right_in, more_other)

      turning : {x : Claim} {i' j' : ℕ} → x ≡ cond (before b a) b a → i' ≡ i + bool_byte (not (before b a)) → j' ≡ j + bool_byte (not (before a b))
          → Turned before one other i j n x i' j'
      turning e f g =
          rw (e, f, g)
          (go (before a b) refl (before b a) refl (walk_first before one other so.walked no_claim in_one in_other)
          (walk_second before one other so.walked no_claim in_one in_other)
          (walk_same before one other so.walked no_claim in_one in_other))
        where
          go : (p : Bool) → before a b ≡ p → (q : Bool) → before b a ≡ q → (before a b ≡ true → Turned before one other i j n a (i + 1) j)
              → (before a b ≡ false → before b a ≡ true → Turned before one other i j n b i (j + 1))
              → (before a b ≡ false → before b a ≡ false → Turned before one other i j n a (i + 1) (j + 1))
              → Turned before one other i j n (cond q b a) (i + bool_byte (not q)) (j + bool_byte (not p))
          go true e true f u v w = absurd (false≢true (sym (before_asym a b e) ∙ f))
          go true e false f u v w = let same : j + 0 ≡ j = omega arith in rw same (u e)
          go false e true f u v w = let same : i + 0 ≡ i = omega arith in rw same (v e f)
          go false e false f u v w = w e f

      pub merging_on : {x : Claim} {i' j' : ℕ} → x ≡ cond (before b a) b a → i' ≡ i + bool_byte (not (before b a)) → j' ≡ j + bool_byte (not (before a b))
          → Merging one other (set places n x) i' j' (n + 1)
      merging_on {x} {i'} {j'} e f g =
          let turn : Turned before one other i j n x i' j' = turning e f g in
          let rest : List Claim = merged before (drop i' one) (drop j' other) in
          let cut : take (table_limit - n) (x ∷ rest) ≡ x ∷ take (table_limit - (n + 1)) rest =
          take_next x rest (table_limit - n) (table_limit - (n + 1)) (omega arith) in
          record {
            walked = turn.walked;
            few = omega arith;
            long = length-set places n x ∙ so.long;
            left = put_at_cons places n x (take (table_limit - (n + 1)) rest) (omega (arith, so.long)) ∙ (rw (← cut, ← turn.here) so.left);
          }

    -- .. and the end: one table is done, and what is left of the other follows as far as there are places; or there are none
    merging_end : (length one ≤ i) ⊎ (length other ≤ j) → (rest : List Claim) → drop i one ++ drop j other ≡ rest → {new : List Claim} {c : ℕ}
        → CopiedBehind places n (take (table_limit - n) rest) new c → Enlisted (blanks table_limit) (tables_in one other) new c
    unfolding tables_in
    merging_end done rest e copied =
        let follows : merged before (drop i one) (drop j other) ≡ rest = walk_end before one other i j done ∙ e in
        record {
          places = copied.places ∙ (rw (← follows) so.left);
          many =
              let cut = length-take table_limit (merged before one other) in
              omega (arith, copied.many, so.few, so.walked.counted, ap length follows, length-take (table_limit - n) rest, cut);
        }

    pub merging_one_done : i ≡ length one → {new : List Claim} {c : ℕ}
        → CopiedBehind places n (take (table_limit - n) (take (length other - j) (drop j other))) new c
        → Enlisted (blanks table_limit) (tables_in one other) new c
    merging_one_done e copied =
        let past : length one ≤ i = omega arith in
        merging_end (inl past) (take (length other - j) (drop j other)) (rw (drop_of_length-le one past) (sym (slice_rest other j))) copied

    pub merging_other_done : j ≡ length other → {new : List Claim} {c : ℕ}
        → CopiedBehind places n (take (table_limit - n) (take (length one - i) (drop i one))) new c
        → Enlisted (blanks table_limit) (tables_in one other) new c
    merging_other_done e copied =
        let past : length other ≤ j = omega arith in
        merging_end (inr past) (take (length one - i) (drop i one)) (rw (drop_of_length-le other past, append-nil (drop i one)) (sym (slice_rest one i))) copied

    pub merging_full : table_limit ≤ n → Enlisted (blanks table_limit) (tables_in one other) places n
    unfolding tables_in
    merging_full h =
        let none : take (table_limit - n) (merged before (drop i one) (drop j other)) ≡ [] =
        take_none (merged before (drop i one) (drop j other)) (table_limit - n) (omega arith) in
        record {
          places = sym (put_at_nil places n) ∙ (rw (← none) so.left);
          many = omega (arith, so.few, so.walked.counted, length-take table_limit (merged before one other));
        }

-- ---- two nodes: k keys are what merging their keys makes, and the run holds `after`

-- a count that is too high tells as many as there are places
capped_take : {A : Type 0} (l : List A) (k most : ℕ) {c : ℕ} → length l ≡ most → c ≡ min k most → take c l ≡ take k l
capped_take l k most whole e =
    rw e (sym (take_least most k l) ∙ take_all most (take k l) (omega (arith, whole, length-take k l)))

module _ (one other run₀ after : List ℕ) (first second : Beside) {own brought : ℕ} (part_one : own ≡ min first.held (length one))
    (part_other : brought ≡ min second.held (length other)) {k : ℕ} (counted : k ≡ length (merged ltb (take own one) (take brought other)))
    (run : after ≡ merged_in (take own one) (take brought other) run₀) where
  abbrev joining : Taken
  joining = join_in (node_held one (rest_given first)) (node_held other (rest_given second)) run₀

  cut_one : take own one ≡ take first.held one
  cut_one = capped_take one first.held (length one) refl part_one

  cut_other : take brought other ≡ take second.held other
  cut_other = capped_take other second.held (length other) refl part_other

  pub join_eight : limit < k → taken_beside after (rest_by first (Err UnionBeyondLimit)) ≡ joining
  unfolding join_in
  join_eight h = rw (← cut_one, ← cut_other, ← run, ← counted, lt-leb k limit h)

  pub join_done : k ≤ limit → {c d : ℕ} → c ≡ min first.pending.count (length first.pending.claims)
      → d ≡ min second.pending.count (length second.pending.claims) → {t : Table}
      → Enlisted (blanks table_limit) (tables_in (take c first.pending.claims) (take d second.pending.claims)) t.claims t.count
      → taken_beside after (rest_by first (Ok (record { held = k; pending = t }))) ≡ joining
  unfolding join_in
  join_done h e f {t} l =
      let all : List Claim = tables_in (take first.pending.count first.pending.claims) (take second.pending.count second.pending.claims) in
      let same = ap₂ tables_in (capped_take first.pending.claims first.pending.count (length first.pending.claims) refl e)
      (capped_take second.pending.claims second.pending.count (length second.pending.claims) refl f) in
      let places : t.claims ≡ put_at (blanks table_limit) 0 all = l.places ∙ ap (put_at (blanks table_limit) 0) same in
      let many : t.count ≡ length all = l.many ∙ ap length same in
      rw (← cut_one, ← cut_other, ← run, ← counted, le-leb k limit h, ← places, ← many)
