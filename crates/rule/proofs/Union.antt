-- The union of two stores: `union` of Round. In order: its members; it rises; which rising list it is; of equal stores, and of stores the other way
-- round; of two stores that grew within it; how many keys it has. Assumes nothing.
use Prim.Native.Nat.{ℕ, ◌≤◌}
use mathlib.Core.List.{List, Memᴰ}
use mathlib.Core.Logic.{◌⊎◌}
use mathlib.Core.Path.{◌≡◌}
use lib.ListN.{length}
use Rattle.keys.proofs.Rising.{Rising, Sub, sub_refl, rising_ext, rising_length}
use Rattle.keys.proofs.Insert.{insert_all_rising, mem_insert_all_new, mem_insert_all_old, insert_all_sub, insert_all_mem, insert_all_held}
use Rattle.rule.specs.Round.{union}

pub union_rising : (l r : List ℕ) → Rising r → Rising (union l r)
union_rising l r q = insert_all_rising l r q

pub union_left : (l r : List ℕ) → Sub l (union l r)
union_left l r = mem_insert_all_new l r

pub union_right : (l r : List ℕ) → Sub r (union l r)
union_right l r = mem_insert_all_old l r

pub union_sub : (l r m : List ℕ) → Sub l m → Sub r m → Sub (union l r) m
union_sub l r m s t = insert_all_sub l r m s t

pub union_mem : (l r : List ℕ) (k : ℕ) → Memᴰ k (union l r) → Memᴰ k l ⊎ Memᴰ k r
union_mem l r k m = insert_all_mem l r k m

-- a rising list with all keys of both, and no other, is the union
pub union_is : (l r m : List ℕ) → Rising r → Rising m → Sub l m → Sub r m → Sub m (union l r) → union l r ≡ m
union_is l r m q p s t v = rising_ext (union l r) m (union_rising l r q) p (union_sub l r m s t) v

pub union_self : (l : List ℕ) → Rising l → union l l ≡ l
union_self l r = insert_all_held l l r (sub_refl l)

pub union_comm : (l r : List ℕ) → Rising l → Rising r → union l r ≡ union r l
union_comm l r p q =
    union_is l r (union r l) q (union_rising r l p) (union_right r l) (union_left r l) (union_sub r l (union l r) (union_right l r) (union_left l r))

-- two stores that grew within the union have the same union
pub union_grown : (l r l' r' : List ℕ) → Rising r → Rising r' → Sub l l' → Sub r r' → Sub l' (union l r) → Sub r' (union l r) → union l' r' ≡ union l r
union_grown l r l' r' q q' s t v w =
    union_is l' r' (union l r) q' (union_rising l r q) v w
    (union_sub l r (union l' r') (λ k m. union_left l' r' k (s k m)) (λ k m. union_right l' r' k (t k m)))

pub length_left_union : (l r : List ℕ) → Rising l → Rising r → length l ≤ length (union l r)
length_left_union l r p q = rising_length l (union l r) p (union_rising l r q) (union_left l r)

pub length_right_union : (l r : List ℕ) → Rising r → length r ≤ length (union l r)
length_right_union l r q = rising_length r (union l r) q (union_rising l r q) (union_right l r)
