-- The walk that merges two lists, of things of any type: at each turn the next thing is one of the two first, and what is left of both is merged as before. When
-- one list is done, what is left of the other follows. Assumes nothing.
use Prim.Native.Nat.{ℕ, ◌+◌, ◌-◌, ◌≤◌, ◌<◌}
use native.Mathlib.Numerals.{add-one}
use native.Mathlib.Omega.{arith}
use mathlib.Core.Bool.{Bool, true, false}
use mathlib.Core.List.{List, ◌∷◌, ◌++◌, append-nil}
use mathlib.Core.Logic.{◌⊎◌, inl, inr}
use mathlib.Core.Path.{◌≡◌, ap}
use lib.ListN.{length, drop, get_or, length-drop, length-append, drop_of_length-le}
use lib.Seq.{drop-cons}
use Rattle.merging.specs.Merge.{merged}
use Rattle.merging.proofs.MergeLaws.{merged_nil, merged_first, merged_second, merged_same}

-- i things of l and j things of m are passed, and n things are done
pub record Walked {A : Type 0} (first : A → A → Bool) (l m : List A) (i j n : ℕ) : Type 0 where
  pub left_in : i ≤ length l
  pub right_in : j ≤ length m
  pub few : n ≤ i + j
  pub counted : n + length (merged first (drop i l) (drop j m)) ≡ length (merged first l m)

-- a turn: x is the next thing, and then i' and j' are passed
pub record Turned {A : Type 0} (first : A → A → Bool) (l m : List A) (i j n : ℕ) (x : A) (i' j' : ℕ) : Type 0 where
  pub walked : Walked first l m i' j' (n + 1)
  pub on : i + j + 1 ≤ i' + j'
  pub here : merged first (drop i l) (drop j m) ≡ x ∷ merged first (drop i' l) (drop j' m)

module _ {A : Type 0} (first : A → A → Bool) (l m : List A) where
  pub walk_start : Walked first l m 0 0 0
  walk_start = record { left_in = omega arith; right_in = omega arith; few = omega arith; counted = omega arith }

  module _ {i j n : ℕ} (so : Walked first l m i j n) where
    turned : (x : A) (i' j' : ℕ) → i' ≤ length l → j' ≤ length m → i + j + 1 ≤ i' + j'
        → merged first (drop i l) (drop j m) ≡ x ∷ merged first (drop i' l) (drop j' m) → Turned first l m i j n x i' j'
    turned x i' j' p q on e = record {
      walked = record { left_in = p; right_in = q; few = omega (arith, so.few); counted = omega (arith, ap length e, so.counted) };
      on = on;
      here = e;
    }

    module _ (d : A) (h : i < length l) (g : j < length m) where
      at_l : drop i l ≡ get_or l i d ∷ drop (i + 1) l
      at_l = rw add-one (drop-cons l i d h)

      at_m : drop j m ≡ get_or m j d ∷ drop (j + 1) m
      at_m = rw add-one (drop-cons m j d g)

      pub walk_first : first (get_or l i d) (get_or m j d) ≡ true → Turned first l m i j n (get_or l i d) (i + 1) j
      walk_first e =
          turned (get_or l i d) (i + 1) j (omega arith) (omega arith) (omega arith)
          (rw (at_l, at_m) (merged_first first (get_or l i d) (get_or m j d) (drop (i + 1) l) (drop (j + 1) m) e))

      pub walk_second : first (get_or l i d) (get_or m j d) ≡ false → first (get_or m j d) (get_or l i d) ≡ true → Turned first l m i j n (get_or m j d) i (j + 1)
      walk_second e f =
          turned (get_or m j d) i (j + 1) (omega arith) (omega arith) (omega arith)
          (rw (at_l, at_m) (merged_second first (get_or l i d) (get_or m j d) (drop (i + 1) l) (drop (j + 1) m) e f))

      pub walk_same : first (get_or l i d) (get_or m j d) ≡ false → first (get_or m j d) (get_or l i d) ≡ false
          → Turned first l m i j n (get_or l i d) (i + 1) (j + 1)
      walk_same e f =
          turned (get_or l i d) (i + 1) (j + 1) (omega arith) (omega arith) (omega arith)
          (rw (at_l, at_m) (merged_same first (get_or l i d) (get_or m j d) (drop (i + 1) l) (drop (j + 1) m) e f))

  -- one list is done: what is left of the other follows
  pub walk_end : (i j : ℕ) → (length l ≤ i) ⊎ (length m ≤ j) → merged first (drop i l) (drop j m) ≡ drop i l ++ drop j m
  walk_end i j (inl h) = rw (drop_of_length-le l h)
  walk_end i j (inr h) = rw (drop_of_length-le m h, append-nil (drop i l)) (merged_nil first (drop i l))

  -- .. and then so many things are done in all
  pub walk_count : {i j n : ℕ} → Walked first l m i j n → (length l ≤ i) ⊎ (length m ≤ j) → n + (length l - i) + (length m - j) ≡ length (merged first l m)
  walk_count {i} {j} so h =
      omega (arith, so.counted, ap length (walk_end i j h), length-append (drop i l) (drop j m), length-drop i l, length-drop j m)
