-- Laws of things in groups (specs/Groups). In order: enough groups are enough; nothing is lost; what a group has; one group and then the rest; how many
-- groups there are; the groups of what was put together from groups; no more than there are. Assumes nothing.
use Prim.Native.Nat.{ℕ, zero, suc, ◌+◌, ◌-◌, ◌/◌, ◌≤◌, ◌<◌, min}
use native.Mathlib.Nat.{add-div_right, div-eq_of_lt}
use native.Mathlib.Omega.{arith}
use mathlib.Core.List.{List, [], ◌∷◌, ◌++◌, flatten, append-nil}
use mathlib.Core.List.Memᴰ
use mathlib.Core.List.{Memᴰ}
use mathlib.Core.Logic.{⊎_elim}
use mathlib.Core.Path.{◌≡◌, refl, ap, sym, ◌∙◌, subst}
use lib.ListN.{length, take, drop, length-append, length-take, length-drop, take-append-drop, drop_of_length-le}
use lib.Seq.{take_all, take_at, drop_at}
use Rattle.std.proofs.lemmas.List.{nil_from_length}
use Rattle.keys.proofs.Rising.{take_mem, drop_mem}
use Rattle.keys.proofs.Tests.{lt_or_le}
use Rattle.text.specs.Groups.{groups, in_groups, group_count}

-- ---- how many groups so many things make

group_count_none : (n : ℕ) → 0 < n → group_count 0 n ≡ 0
group_count_none n h = let e : 0 + (n - 1) ≡ n - 1 = omega arith in rw e (div-eq_of_lt (omega arith))

-- one group, and those of the rest
pub group_count_step : (m n : ℕ) → 0 < n → group_count (suc m) n ≡ suc (group_count (suc m - n) n)
group_count_step m n h =
    let e : suc m + (n - 1) ≡ m + n = omega arith in
    let rest : group_count (suc m - n) n ≡ m / n = ⊎_elim {C = group_count (suc m - n) n ≡ m / n}
    (λ (p : m < n).
    let z : suc m - n ≡ 0 = omega arith in
    rw z (group_count_none n h ∙ sym (div-eq_of_lt p)))
    (λ (p : n ≤ m).
    let s : suc m - n + (n - 1) ≡ m = omega arith in
    rw s)
    (lt_or_le m n) in
    rw (e, add-div_right m h, rest) (omega arith)

module _ {A : Type 0} where
  -- ---- enough groups are enough

  groups_nil : (m n : ℕ) → groups {A = A} m n [] ≡ []
  groups_nil zero n = refl
  groups_nil (suc m) n = refl

  -- as many groups as things, or more, are all the same
  groups_enough : (m k n : ℕ) (xs : List A) → 0 < n → length xs ≤ m → length xs ≤ k → groups m n xs ≡ groups k n xs
  groups_enough zero k n [] h p q = sym (groups_nil k n)
  groups_enough zero k n (x ∷ xs) h p q = absurd (omega arith)
  groups_enough (suc m) k n [] h p q = sym (groups_nil k n)
  groups_enough (suc m) zero n (x ∷ xs) h p q = absurd (omega arith)
  groups_enough (suc m) (suc k) n (x ∷ xs) h p q =
      let l = length-drop n (x ∷ xs) in
      ap (λ (g : List (List A)). take n (x ∷ xs) ∷ g) (groups_enough m k n (drop n (x ∷ xs)) h (omega arith) (omega arith))

  -- ---- nothing is lost

  flatten_groups : (m n : ℕ) (xs : List A) → 0 < n → length xs ≤ m → flatten (groups m n xs) ≡ xs
  unfolding flatten
  flatten_groups zero n [] h p = refl
  flatten_groups zero n (x ∷ xs) h p = absurd (omega arith)
  flatten_groups (suc m) n [] h p = refl
  flatten_groups (suc m) n (x ∷ xs) h p =
      let l = length-drop n (x ∷ xs) in
      rw (flatten_groups m n (drop n (x ∷ xs)) h (omega arith)) (take-append-drop n (x ∷ xs))

  pub flatten_in_groups : (n : ℕ) (xs : List A) → 0 < n → flatten (in_groups n xs) ≡ xs
  unfolding in_groups
  flatten_in_groups n xs h = flatten_groups (length xs) n xs h (omega arith)

  -- ---- each group has from one thing to n, all of them among the things

  groups_mem : (m n : ℕ) (xs g : List A) → 0 < n → Memᴰ g (groups m n xs) → (1 ≤ length g) × (length g ≤ n) × ((x : A) → Memᴰ x g → Memᴰ x xs)
  groups_mem zero n xs g h i = absurd (Memᴰ.not-nil i)
  groups_mem (suc m) n [] g h i = absurd (Memᴰ.not-nil i)
  groups_mem (suc m) n (x ∷ xs) g h (Memᴰ.head e) =
      let l : length g ≡ min n (suc (length xs)) = ap length e ∙ length-take n (x ∷ xs) in
      (omega arith, omega arith, λ y j. take_mem n (x ∷ xs) y (subst (Memᴰ y) e j))
  groups_mem (suc m) n (x ∷ xs) g h (Memᴰ.tail i) =
      let (some, few, sub) = groups_mem m n (drop n (x ∷ xs)) g h i in
      (some, few, λ y j. drop_mem n (x ∷ xs) y (sub y j))

  pub in_groups_mem : (n : ℕ) (xs g : List A) → 0 < n → Memᴰ g (in_groups n xs)
      → (1 ≤ length g) × (length g ≤ n) × ((x : A) → Memᴰ x g → Memᴰ x xs)
  unfolding in_groups
  in_groups_mem n xs g h i = groups_mem (length xs) n xs g h i

  -- ---- one group, and then the rest

  pub in_groups_nil : (n : ℕ) → in_groups {A = A} n [] ≡ []
  unfolding in_groups
  in_groups_nil n = refl

  pub in_groups_turn : (n : ℕ) (xs : List A) → 0 < n → 0 < length xs → in_groups n xs ≡ take n xs ∷ in_groups n (drop n xs)
  unfolding in_groups
  in_groups_turn n [] h p = absurd (omega arith)
  in_groups_turn n (x ∷ xs) h p =
      let l = length-drop n (x ∷ xs) in
      ap (λ (g : List (List A)). take n (x ∷ xs) ∷ g)
      (groups_enough (length xs) (length (drop n (x ∷ xs))) n (drop n (x ∷ xs)) h (omega arith) (omega arith))

  -- .. as an iterator over chunks cuts it off
  pub in_groups_cut : (n : ℕ) (xs g rest : List A) → 0 < n → xs ≡ g ++ rest → length g ≡ min n (length xs) → 0 < length xs
      → in_groups n xs ≡ g ∷ in_groups n rest
  in_groups_cut n xs g rest h cut size some =
      let parts = ap length cut ∙ length-append g rest in
      ⊎_elim {C = in_groups n xs ≡ g ∷ in_groups n rest}
      (λ (p : length xs < n).
      let none : length rest ≡ 0 = omega arith in
      let all : take n xs ≡ g = take_all n xs (omega arith) ∙ (cut ∙ (ap (λ (l : List A). g ++ l) (nil_from_length rest none) ∙ append-nil g)) in
      let past : drop n xs ≡ rest = drop_of_length-le xs (let q : length xs ≤ n = omega arith in q) ∙ sym (nil_from_length rest none) in
      in_groups_turn n xs h some ∙ rw (all, past))
      (λ (p : n ≤ length xs).
      let e : length g ≡ n = omega arith in
      in_groups_turn n xs h some ∙ rw (cut, take_at g rest n e, drop_at g rest n e))
      (lt_or_le (length xs) n)

  -- ---- how many there are

  length_groups : (m n : ℕ) (xs : List A) → 0 < n → length xs ≤ m → length (groups m n xs) ≡ group_count (length xs) n
  length_groups zero n [] h p = sym (group_count_none n h)
  length_groups zero n (x ∷ xs) h p = absurd (omega arith)
  length_groups (suc m) n [] h p = sym (group_count_none n h)
  length_groups (suc m) n (x ∷ xs) h p =
      let l = length-drop n (x ∷ xs) in
      let rest = length_groups m n (drop n (x ∷ xs)) h (omega arith) in
      rw (group_count_step (length xs) n h, ← l, ← rest)

  pub length_in_groups : (n : ℕ) (xs : List A) → 0 < n → length (in_groups n xs) ≡ group_count (length xs) n
  unfolding in_groups
  length_in_groups n xs h = length_groups (length xs) n xs h (omega arith)

  -- ---- what was put together from groups of n is parted into them again

  pub in_groups_flatten : (n : ℕ) (xss : List (List A)) → 0 < n → ((xs : List A) → Memᴰ xs xss → length xs ≡ n) → in_groups n (flatten xss) ≡ xss
  unfolding flatten
  in_groups_flatten n [] h all = in_groups_nil n
  in_groups_flatten n (xs ∷ xss) h all =
      let e : length xs ≡ n = all xs (Memᴰ.head refl) in
      let l = length-append xs (flatten xss) in
      rw (in_groups_turn n (xs ++ flatten xss) h (omega arith), take_at xs (flatten xss) n e, drop_at xs (flatten xss) n e)
      (ap (λ (g : List (List A)). xs ∷ g) (in_groups_flatten n xss h (λ ys i. all ys (Memᴰ.tail i))))

  -- ---- no more than there are

  pub take_capped : (n : ℕ) (xs : List A) → take (min (length xs) n) xs ≡ take n xs
  take_capped n xs = ⊎_elim {C = take (min (length xs) n) xs ≡ take n xs}
      (λ (h : length xs < n).
      let e : min (length xs) n ≡ length xs = omega arith in
      rw (e, take_all (length xs) xs (omega arith), take_all n xs (omega arith)))
      (λ (h : n ≤ length xs). let e : min (length xs) n ≡ n = omega arith in rw e)
      (lt_or_le (length xs) n)

  pub drop_capped : (n : ℕ) (xs : List A) → drop (min (length xs) n) xs ≡ drop n xs
  drop_capped n xs = ⊎_elim {C = drop (min (length xs) n) xs ≡ drop n xs}
      (λ (h : length xs < n).
      let e : min (length xs) n ≡ length xs = omega arith in
      let p : length xs ≤ length xs = omega arith in
      let q : length xs ≤ n = omega arith in
      rw (e, drop_of_length-le xs p, drop_of_length-le xs q))
      (λ (h : n ≤ length xs). let e : min (length xs) n ≡ n = omega arith in rw e)
      (lt_or_le (length xs) n)
