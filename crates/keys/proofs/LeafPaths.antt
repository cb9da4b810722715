-- The leaves of src/leaf.rt: what `rising` and `all_zero` are told; and of the loop `resum`, by what is left of the run, how a turn goes on
-- and what the answer is where it stops. Not here: what puts in, by the laws of its definition (PuttingLaws). Assumes nothing.
use mathlib.Core.Path.{◌≡◌, refl, sym, ◌∙◌}
use mathlib.Core.Bool.{Bool, true, false, ◌&&◌, and-true, and-false, and_assoc}
use mathlib.Core.Logic.{⊎_elim}
use mathlib.Core.List.{List, [], ◌∷◌, ◌++◌, append_assoc, append-nil}
use Prim.Native.Nat.{ℕ, zero, suc, ◌+◌, ◌≤◌, ◌<◌}
use native.Mathlib.Numerals.{add-one}
use native.Mathlib.Omega.{arith}
use borrow.Author.Tests.{ne_eqb}
use lib.Bits.{bit_xor, bit_or, or_zero_l, or_add_and, and_le_r}
use lib.Dec.{ltb, eqb}
use lib.ListN.{length, take, drop, get_or, set}
use lib.Seq.{drop-cons, take_all, take-suc-set}
use borrow.Rule.Slice.PartMut.{put_mid}
use Rattle.std.proofs.lemmas.List.{drop_all}
use Rattle.std.specs.List.{AllAdjacentBelow, IsAllAdjacentAnswer, fold}
use Rattle.keys.specs.Store.{running_from, rising, rises_from, all_zero}
use Rattle.keys.specs.Place.{put_at}
use Rattle.keys.proofs.Tests.{eq_or_ne}

-- `rising`: each key was answered to be below the next, or one was not

rises_each : (k : ℕ) (l : List ℕ) → AllAdjacentBelow (λ i j. true ≡ ltb i j) (k ∷ l) (length (k ∷ l)) → true ≡ rises_from k l
rises_each k [] each = refl
rises_each k (j ∷ js) each =
    let less : ltb k j ≡ true = sym (each 0 0 (omega arith)) in
    rw less (rises_each j js later)
  where
    later : AllAdjacentBelow (λ i j. true ≡ ltb i j) (j ∷ js) (length (j ∷ js))
    later i d h =
        let next : suc i + 1 ≡ suc (i + 1) = omega arith in
        rw next at (each (suc i) d (omega arith))

rises_not : (k : ℕ) (l : List ℕ) (i : ℕ) → i + 1 < length (k ∷ l) → ((d : ℕ) → false ≡ ltb (get_or (k ∷ l) i d) (get_or (k ∷ l) (i + 1) d))
    → false ≡ rises_from k l
rises_not k [] i h more = absurd (omega arith)
rises_not k (j ∷ js) zero h more = rw (← more 0)
rises_not k (j ∷ js) (suc i) h more =
    let next : suc i + 1 ≡ suc (i + 1) = omega arith in
    let later : false ≡ rises_from j js = rises_not j js i (omega arith) (λ d. rw next at (more d)) in
    rw (← later, and-false)

pub rising_told : (l : List ℕ) (told : Bool) → IsAllAdjacentAnswer (λ i j b. b ≡ ltb i j) l told → told ≡ rising l
rising_told [] true each = refl
rising_told (k ∷ ks) true each = rises_each k ks each
rising_told [] false (i, h, more) = absurd (omega arith)
rising_told (k ∷ ks) false (i, h, more) = rises_not k ks i h more

-- `all_zero`: every place is 0 if all together have no bits

-- two numbers together have no bits if neither has
or_none : (a b : ℕ) → eqb (bit_or a b) 0 ≡ (eqb a 0 && eqb b 0)
or_none a b = ⊎_elim {C = eqb (bit_or a b) 0 ≡ (eqb a 0 && eqb b 0)}
    (λ (e : a ≡ 0). rw (e, or_zero_l b))
    (λ (f : a ≡ 0 → ⊥). rw (ne_eqb a 0 f, ne_eqb (bit_or a b) 0 (λ (z : bit_or a b ≡ 0). f (omega (arith, or_add_and a b, and_le_r a b)))))
    (eq_or_ne a 0)

or_all : (bits : ℕ) (l : List ℕ) → eqb (fold bit_or bits l) 0 ≡ (eqb bits 0 && all_zero l)
or_all bits [] = sym (and-true (eqb bits 0))
or_all bits (x ∷ xs) = or_all (bit_or bits x) xs ∙ rw (or_none bits x) (and_assoc (eqb bits 0) (eqb x 0) (all_zero xs))

pub zero_all : (l : List ℕ) (bits : ℕ) → bits ≡ fold bit_or 0 l → eqb bits 0 ≡ all_zero l
zero_all l bits e = rw e (or_all 0 l)

-- `resum`: the sums passed, and those that are left to be worked out, after the sum so far

module _ (keys sums : List ℕ) (sum i : ℕ) where
  abbrev pub resum_from : List ℕ
  resum_from = take i sums ++ running_from sum (drop i keys)

  pub resum_end : (all : List ℕ) → resum_from ≡ all → length keys ≡ length sums → length sums ≤ i → sums ≡ all
  resum_end all e same h = rw (take_all i sums h, drop_all i keys (omega arith), append-nil sums) at e

pub resum_on : (keys sums : List ℕ) (sum i : ℕ) (all : List ℕ) → resum_from keys sums sum i ≡ all → length keys ≡ length sums → i < length sums
    → resum_from keys (set sums i (bit_xor sum (get_or keys i 0))) (bit_xor sum (get_or keys i 0)) (i + 1) ≡ all
resum_on keys sums sum i all e same h =
    let key : ℕ = get_or keys i 0 in
    let inside : i < length keys = omega arith in
    rw (add-one i, take-suc-set sums i (bit_xor sum key) h, append_assoc (take i sums))
    (rw (drop-cons keys i 0 inside) at e)

-- the part that was written, put back
pub resum_part : (s : List ℕ) (at n : ℕ) (xs : List ℕ) → n ≡ length xs → put_mid at n s xs ≡ put_at s at xs
unfolding put_at
resum_part s at n xs e = rw e
