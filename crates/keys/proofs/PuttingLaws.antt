-- Putting elements in at a place (specs/Lent, `inserted_at`), over the type of the elements: those from there on move up first, all at once.
-- In order: the run once they have moved (`Moved`), by any number of places; one element put in; two put in after one move. Assumes nothing.
use mathlib.Core.Path.{◌≡◌, sym, ◌∙◌, ap, ap₂}
use mathlib.Core.List.{List, ◌∷◌, ◌++◌, append_assoc}
use Prim.Native.Nat.{ℕ, suc, ◌+◌, ◌-◌, ◌≤◌, ◌<◌}
use native.Mathlib.Omega.{arith}
use lib.ListN.{length, take, drop, get_or, set, length-append, length-take, length-drop, length-set, take-append-drop}
use lib.Seq.{set_split, get_or-set_same, drop-cons, take-take, take-add, drop-drop, take-set-le, drop-set-lt, length-take-le, split_at}
use lib.Seq.{take_at, drop_at, drop-append-add, take-append-le, length-paste}
use Rattle.std.specs.List.{copy_within}
use Rattle.keys.specs.Lent.{inserted_at}

-- ---- the run once they have moved

-- The run once the elements from i to the count have moved up by m places: those below i are the old ones; from i + m on stand those from i to the count,
-- and then what stood past the places that they moved to.
pub record Moved {A : Type 0} (m : ℕ) (old run : List A) (count i : ℕ) : Type 0 where
  pub long : length run ≡ length old
  pub below : take i run ≡ take i old
  pub above : drop (i + m) run ≡ take (count - i) (drop i old) ++ drop (count + m) old

pub moved_within : {A : Type 0} (m : ℕ) (old : List A) (count i : ℕ) → i ≤ count → count + m ≤ length old
    → Moved m old (copy_within old i count (i + m)) count i
moved_within m old count i h fits =
    let many : count - i ≤ length (drop i old) = rw length-drop (omega arith) in
    let place : i + m ≤ length old = omega arith in
    let past : i + m + (count - i) ≡ count + m = omega arith in
    let head : length (take (i + m) old) ≡ i + m = length-take-le (i + m) old place in
    record {
      long = length-paste old (i + m) (drop i old) (count - i) (omega arith) many;
      below =
          ap (take i) (append_assoc (take (i + m) old) (take (count - i) (drop i old)) (drop (i + m + (count - i)) old))
          ∙ (take-append-le i (take (i + m) old) (take (count - i) (drop i old) ++ drop (i + m + (count - i)) old) (omega (arith, head))
          ∙ take-take i (i + m) old (omega arith));
      above =
          ap (drop (i + m)) (append_assoc (take (i + m) old) (take (count - i) (drop i old)) (drop (i + m + (count - i)) old))
          ∙ (drop_at (take (i + m) old) (take (count - i) (drop i old) ++ drop (i + m + (count - i)) old) (i + m) head
          ∙ ap (λ (n : ℕ). take (count - i) (drop i old) ++ drop n old) past);
    }

-- ---- one element put in

-- the run keeps its length
pub length_inserted_at : {A : Type 0} (at count : ℕ) (x : A) (run : List A) → at ≤ count → count < length run
    → length (inserted_at at count x run) ≡ length run
unfolding inserted_at
length_inserted_at at count x run h g = simp (length-append, length-take, length-drop) (omega arith)

pub moved_put : {A : Type 0} (old run : List A) (count at : ℕ) (x : A) → at ≤ count → count < length old → Moved 1 old run count at
    → set run at x ≡ inserted_at at count x old
unfolding inserted_at
moved_put {A} old run count at x h g so_far =
    set_split run at x (omega (arith, so_far.long))
    ∙ (ap₂ (λ (l r : List A). l ++ (x ∷ r)) so_far.below (let e : suc at ≡ at + 1 = omega arith in ap (λ (n : ℕ). drop n run) e ∙ so_far.above))

-- ---- two elements put in

-- an element put in where b ends that stands between a and the rest, over one that e is
inserted_at_parts : {A : Type 0} (a b d : List A) (e x : A) (at count : ℕ) → length a ≡ at → at + length b ≡ count
    → inserted_at at count x (a ++ (b ++ (e ∷ d))) ≡ a ++ (x ∷ (b ++ d))
unfolding inserted_at
inserted_at_parts {A} a b d e x at count p q =
    let many : length b ≡ count - at = omega arith in
    let past : count + 1 ≡ length a + (length b + 1) = omega arith in
    rw (
      take_at a (b ++ (e ∷ d)) at p,
      drop_at a (b ++ (e ∷ d)) at p,
      take_at b (e ∷ d) (count - at) many,
      past,
      drop-append-add a (b ++ (e ∷ d)) (length b + 1),
      drop-append-add b (e ∷ d) 1,
    )

module _ {A : Type 0} (d : A) (old run : List A) (lower upper count : ℕ) (x y : A) (rise : lower ≤ upper) (high : upper ≤ count) (fits : count + 1 < length old)
    (so_far : Moved 2 old run count upper) where
  -- the old run, in parts: to the lower place, to the upper one, to the count, two elements that are overwritten, the rest
  abbrev a : List A
  a = take lower old

  abbrev b : List A
  b = take (upper - lower) (drop lower old)

  abbrev c : List A
  c = take (count - upper) (drop upper old)

  abbrev e : A
  e = get_or old count d

  abbrev f : A
  f = get_or old (count + 1) d

  abbrev rest : List A
  rest = drop (count + 2) old

  length_a : length a ≡ lower
  length_a = length-take-le lower old (omega arith)

  length_b : length b ≡ upper - lower
  length_b = length-take-le (upper - lower) (drop lower old) (rw length-drop (omega arith))

  length_c : length c ≡ count - upper
  length_c = length-take-le (count - upper) (drop upper old) (rw length-drop (omega arith))

  front : take upper old ≡ a ++ b
  front = let s : upper ≡ lower + (upper - lower) = omega arith in ap (λ (n : ℕ). take n old) s ∙ take-add lower (upper - lower) old

  -- what the move leaves, once y is set: the gap for x to move into is whatever stood there
  gap : set run (upper + 1) y ≡ a ++ (b ++ (get_or (set run (upper + 1) y) upper d ∷ (y ∷ (c ++ rest))))
  gap =
      let s = set run (upper + 1) y in
      let z = get_or s upper d in
      let inside : upper + 1 < length run = omega (arith, so_far.long) in
      let low : take upper s ≡ a ++ b = take-set-le upper run (upper + 1) y (omega arith) ∙ (so_far.below ∙ front) in
      let next : suc upper ≡ upper + 1 = omega arith in
      let after : suc (upper + 1) ≡ upper + 2 = omega arith in
      let long : upper + 1 < length s = rw length-set inside in
      let high : drop (suc upper) s ≡ y ∷ (c ++ rest) =
      ap (λ (n : ℕ). drop n s) next
      ∙ (drop-cons s (upper + 1) d long
      ∙ ap₂ (λ (v : A) (l : List A). v ∷ l)
      (get_or-set_same run (upper + 1) y d inside)
      (drop-set-lt (suc (upper + 1)) run (upper + 1) y (omega arith) ∙ (ap (λ (n : ℕ). drop n run) after ∙ so_far.above))) in
      split_at s upper d (omega arith)
      ∙ (ap₂ (λ (l r : List A). l ++ (z ∷ r)) low high ∙ append_assoc a b (z ∷ (y ∷ (c ++ rest))))

  -- the old run from the upper place on
  back : drop upper old ≡ c ++ (e ∷ (f ∷ rest))
  back =
      let s : upper + (count - upper) ≡ count = omega arith in
      let next : suc count ≡ count + 1 = omega arith in
      let after : suc (count + 1) ≡ count + 2 = omega arith in
      sym (take-append-drop (count - upper) (drop upper old))
      ∙ ap (λ (l : List A). c ++ l)
      (drop-drop (count - upper) upper old
      ∙ (ap (λ (n : ℕ). drop n old) s
      ∙ (drop-cons old count d (omega arith)
      ∙ ap (λ (l : List A). e ∷ l)
      (ap (λ (n : ℕ). drop n old) next ∙ (drop-cons old (count + 1) d fits ∙ ap (λ (n : ℕ). f ∷ drop n old) after)))))

  parts : old ≡ a ++ ((b ++ c) ++ (e ∷ (f ∷ rest)))
  parts =
      sym (take-append-drop upper old)
      ∙ (ap₂ (λ (l r : List A). l ++ r) front back
      ∙ (append_assoc a b (c ++ (e ∷ (f ∷ rest))) ∙ ap (λ (l : List A). a ++ l) (sym (append_assoc b c (e ∷ (f ∷ rest))))))

  -- x put in below what the move left is x put in and then y
  pub moved_both : inserted_at lower upper x (set run (upper + 1) y) ≡ inserted_at (upper + 1) (count + 1) y (inserted_at lower count x old)
  moved_both =
      let both : lower + length (b ++ c) ≡ count = rw length-append (omega (arith, length_b, length_c)) in
      let head : length (a ++ (x ∷ b)) ≡ upper + 1 = rw length-append (omega (arith, length_a, length_b)) in
      let first : inserted_at lower count x old ≡ (a ++ (x ∷ b)) ++ (c ++ (f ∷ rest)) =
      ap (inserted_at lower count x) parts
      ∙ (inserted_at_parts a (b ++ c) (f ∷ rest) e x lower count length_a both
      ∙ (ap (λ (l : List A). a ++ (x ∷ l)) (append_assoc b c (f ∷ rest)) ∙ sym (append_assoc a (x ∷ b) (c ++ (f ∷ rest))))) in
      let second : inserted_at (upper + 1) (count + 1) y ((a ++ (x ∷ b)) ++ (c ++ (f ∷ rest))) ≡ (a ++ (x ∷ b)) ++ (y ∷ (c ++ rest)) =
      inserted_at_parts (a ++ (x ∷ b)) c rest f y (upper + 1) (count + 1) head (omega (arith, length_c)) in
      let below : inserted_at lower upper x (set run (upper + 1) y) ≡ a ++ (x ∷ (b ++ (y ∷ (c ++ rest)))) =
      ap (inserted_at lower upper x) gap
      ∙ inserted_at_parts a b (y ∷ (c ++ rest)) (get_or (set run (upper + 1) y) upper d) x lower upper length_a (omega (arith, length_b)) in
      below ∙ (sym (append_assoc a (x ∷ b) (y ∷ (c ++ rest))) ∙ sym (ap (inserted_at (upper + 1) (count + 1) y) first ∙ second))
