-- Things in groups of n, and the rest in a last one: claims in frames, keys in rows and on pages. Assumes nothing.
use Rattle.std.specs.Prelude.{ℕ, zero, suc, ◌+◌, ◌-◌, ◌/◌, List, [], ◌∷◌, length, take, drop}

-- at most `most` groups
abbrev pub groups : {A : Type 0} → ℕ → ℕ → List A → List (List A)
groups zero n xs = []
groups (suc most) n [] = []
groups (suc most) n (x ∷ xs) = take n (x ∷ xs) ∷ groups most n (drop n (x ∷ xs))

-- all of them: as many groups as things are enough (`flatten_in_groups` of proofs/GroupsLaws says that nothing is lost)
unfoldable pub in_groups : {A : Type 0} → ℕ → List A → List (List A)
in_groups n xs = groups (length xs) n xs

-- how many groups m things make
abbrev pub group_count : ℕ → ℕ → ℕ
group_count m n = (m + (n - 1)) / n
