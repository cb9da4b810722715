-- Two lists in one, as the code makes it, of things of any type and in any order: of the two first things the one that comes before, of equal ones one, and so
-- on. It is the interface between our own functions, and no rule of document 01 or 02. Where both lists are sorted it is the union of two runs of keys, and of two
-- tables the two in one (`merged_union` and `merged_claims` of proofs/MergeLaws). Assumes nothing.
use Rattle.std.specs.Prelude.{ℕ, ◌+◌, ◌-◌, ◌≤◌, ◌<◌, Bool, cond, List, [], ◌∷◌, ◌++◌, ◌≡◌, ltb, leb, length, drop}
use Rattle.keys.specs.Store.{limit}
use Rattle.keys.specs.Place.{put_at}
use Rattle.merging.specs.declared.runs.Reached.{Reached}

abbrev pub merged : {A : Type 0} → (A → A → Bool) → List A → List A → List A
merged first [] m = m
merged first (x ∷ xs) [] = x ∷ xs
merged first (x ∷ xs) (y ∷ ys) =
    cond (first x y) (x ∷ merged first xs (y ∷ ys))
    (cond (first y x) (y ∷ merged first (x ∷ xs) ys) (x ∷ merged first xs ys))

-- `merge_in`: what a run holds once two others are merged into it; where they are too many keys, what it held
unfoldable pub merged_in : List ℕ → List ℕ → List ℕ → List ℕ
merged_in one other into = cond (leb (length (merged ltb one other)) limit) (put_at into 0 (merged ltb one other)) into

-- what `walk` tells: both runs are passed to so far that what is left of them, one after the other, is what is left to count, and where
-- there are places to write, what is left to write
pub record OneDone (places : ℕ) (one other before after : List ℕ) (r : Reached) : Type 0 where
  pub one_in : r.one ≤ length one
  pub other_in : r.other ≤ length other
  pub few : r.both ≤ r.one + r.other
  pub long : length after ≡ places
  pub counted : r.both + (length one - r.one) + (length other - r.other) ≡ length (merged ltb one other)
  pub rest : 0 < places → put_at after r.both (drop r.one one ++ drop r.other other) ≡ put_at before 0 (merged ltb one other)
