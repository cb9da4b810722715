-- The search for a key's position (src/search.rt): what a turn passes, and what is left to search. Assumes nothing.
use mathlib.Core.Path.{◌≡◌, refl, sym, ◌∙◌, ap}
use mathlib.Core.Bool.{cond}
use mathlib.Core.List.{List}
use Prim.Native.Nat.{ℕ, ◌+◌, ◌-◌, ◌*◌, ◌/◌, ◌≤◌, ◌<◌}
use native.Mathlib.Omega.{arith}
use lib.Dec.{leb}
use lib.ListN.{length, take, drop, get_or}
use lib.Seq.{drop-drop}
use Rattle.keys.specs.Lent.{halved, quarter_of, quartered}
use Rattle.keys.proofs.PlaceLaws.{slice_rest}
use Rattle.keys.proofs.QuarteringLaws.{quarters_le, quarter_of_le, quartered_few, quartered_turn}
use Rattle.keys.proofs.PartingLaws.{quartered_part}

-- `reached`: the three bits say which quarters are passed

pub passed_is : (part : List ℕ) (key width up : ℕ)
    → up ≡ cond (leb (get_or part width 0) key) 1 0 + cond (leb (get_or part (width + width) 0) key) 1 0
    + cond (leb (get_or part (width + width + width) 0) key) 1 0
    → width * up ≡ width * quarter_of part key 0 width
passed_is part key width up e = let here : 0 + width ≡ width = omega arith in rw (e, here)

-- What is left of a run for a key that is sought: a part of it, `size` keys from `at` on. What is found among them, counted from there, is what is found in
-- the run.

pub record Narrowed (keys : List ℕ) (count key : ℕ) (part : List ℕ) (at sought size : ℕ) : Type 0 where
  pub some : 0 < size
  pub inside : at + size ≤ count
  pub rest : part ≡ drop at keys
  pub seeks : sought ≡ key
  pub same : quartered count keys key 0 count ≡ at + quartered size part key 0 size

-- what a turn passes, of quarters of `width` keys
quarters_most : (part : List ℕ) (key width : ℕ) → width * quarter_of part key 0 width ≤ 3 * width
quarters_most part key width = quarters_le width (quarter_of part key 0 width) (quarter_of_le part key 0 width)

module _ {keys : List ℕ} {count key : ℕ} {part : List ℕ} {at sought size : ℕ} (left : Narrowed keys count key part at sought size) where
  pub narrowed_turn : 3 < size → (next : List ℕ) (from seeks : ℕ)
      → (next ≡ drop (size / 4 * quarter_of part sought 0 (size / 4)) part) × (from ≡ at + size / 4 * quarter_of part sought 0 (size / 4)) × (seeks ≡ sought)
      → Narrowed keys count key next from seeks (size - 3 * (size / 4))
  narrowed_turn many next from seeks turn =
      rw (turn.0, turn.1, turn.2, left.seeks)
      (record {
        some = omega arith;
        inside = omega (arith, left.inside, quarters_most part key (size / 4));
        rest = ap (drop more) left.rest ∙ drop-drop more at keys;
        seeks = refl;
        same = found;
      })
    where
      more : ℕ
      more = size / 4 * quarter_of part key 0 (size / 4)

      found : quartered count keys key 0 count ≡ at + more + quartered (size - 3 * (size / 4)) (drop more part) key 0 (size - 3 * (size / 4))
      found =
          let there : 0 + size / 4 * quarter_of part key 0 (size / 4) ≡ more + 0 = omega arith in
          let on : quartered size part key 0 size ≡ more + quartered (size - 3 * (size / 4)) (drop more part) key 0 (size - 3 * (size / 4)) =
          quartered_turn part key 0 size (omega arith)
          ∙ (ap (λ (b : ℕ). quartered (size - 3 * (size / 4)) part key b (size - 3 * (size / 4))) there
          ∙ sym (quartered_part part key more (size - 3 * (size / 4)) 0 (size - 3 * (size / 4)))) in
          omega (arith, left.same, on)

  -- the last few keys are halved
  pub narrowed_few : size ≤ 3 → (r : ℕ) → r ≡ at + halved size part sought 0 size → r ≡ quartered count keys key 0 count
  narrowed_few few r e =
      e ∙ (ap (λ (k : ℕ). at + halved size part k 0 size) left.seeks
      ∙ (ap (λ (k : ℕ). at + k) (sym (quartered_few part key size 0 size (omega arith))) ∙ sym left.same))

-- `far`: a turn, with the part from `at` on lent

module _ {keys : List ℕ} {count key at size : ℕ} (left : Narrowed keys count key (drop at keys) at key size) where
  pub far_turn : 3 < size → (more : ℕ) → more ≡ size / 4 * quarter_of (take (length keys - at) (drop at keys)) key 0 (size / 4)
      → Narrowed keys count key (drop (at + more) keys) (at + more) key (size - 3 * (size / 4))
  far_turn many more e =
      let is : more ≡ size / 4 * quarter_of (drop at keys) key 0 (size / 4) = rw (slice_rest keys at) at e in
      narrowed_turn left many (drop (at + more) keys) (at + more) key
      (sym (drop-drop more at keys) ∙ ap (λ (n : ℕ). drop n (drop at keys)) is, ap (λ (n : ℕ). at + n) is, refl)
