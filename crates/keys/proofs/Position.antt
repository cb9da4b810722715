-- The position of a key in rising keys: `position` of Store. In order: its two cases; what stands before it and from it on; the index that
-- it is, for a search; the position of a held key and the key at a position; `holds` and `insert` by position; the order of two
-- positions; positions after an insert.
-- A law that does not ask for `Rising` holds for any list. Assumes nothing.
use Prim.Native.Nat.{ℕ, zero, suc, ◌≤◌, ◌<◌, suc-le-suc}
use mathlib.Core.Bool.{Bool, true, false, ◌&&◌, cond}
use mathlib.Core.List.Memᴰ
use mathlib.Core.List.{List, [], ◌∷◌, ◌++◌, Memᴰ}
use mathlib.Core.Logic.{◌⊎◌, inl, inr, ⊎_elim}
use mathlib.Core.Path.{◌≡◌, refl, sym, ap, ◌∙◌}
use native.Mathlib.Nat.{le_of_suc-le-suc, not-suc-le-zero}
use native.Mathlib.Omega.{arith}
use borrow.Author.Tests.{lt-ltb, le-ltb, ltb-true, eqb-true, eq-eqb}
use lib.Dec.{ltb, eqb}
use lib.ListN.{length, take, drop, get_or}
use Rattle.keys.specs.Store.{position, holds, insert, insert_all}
use Rattle.keys.proofs.Tests.{Order, less, equal, greater, order, lt_or_le, le_unless, and_left, and_right, and_both}
use Rattle.keys.proofs.Rising.{Rising, above_mem, rising_head, mem_get_d, rising_get_d, rising_get_d_le, mem_holds, absent_holds, mem_or_absent}
use Rattle.keys.proofs.Insert.{insert_after, insert_here, insert_before, insert_held}

-- ---- the two cases

pub position_after : (k j : ℕ) (js : List ℕ) → j < k → position k (j ∷ js) ≡ suc (position k js)
position_after k j js h = rw (lt-ltb j k h)

pub position_here : (k j : ℕ) (js : List ℕ) → k ≤ j → position k (j ∷ js) ≡ 0
position_here k j js h = rw (le-ltb j k h)

pub position_le : (k : ℕ) (l : List ℕ) → position k l ≤ length l
position_le k [] = omega arith
position_le k (j ∷ js) = go (lt_or_le j k) (position_le k js)
  where
    go : (j < k) ⊎ (k ≤ j) → position k js ≤ length js → position k (j ∷ js) ≤ length (j ∷ js)
    go (inl h) below = rw (position_after k j js h) (suc-le-suc below)
    go (inr h) below = rw (position_here k j js h) (omega arith)

-- ---- what stands before it, and from it on

pub position_before : (k : ℕ) (l : List ℕ) (i : ℕ) → i < position k l → get_or l i 0 < k
position_before k [] i h = absurd (not-suc-le-zero h)
position_before k (j ∷ js) i h = go (lt_or_le j k) i h (position_before k js)
  where
    go : (j < k) ⊎ (k ≤ j) → (i : ℕ) → i < position k (j ∷ js) → ((i : ℕ) → i < position k js → get_or js i 0 < k) → get_or (j ∷ js) i 0 < k
    go (inr g) i h below = absurd (not-suc-le-zero (rw (position_here k j js g) at h))
    go (inl g) zero h below = g
    go (inl g) (suc i) h below = below i (le_of_suc-le-suc (rw (position_after k j js g) at h))

pub position_from : (k : ℕ) (l : List ℕ) → Rising l → (i : ℕ) → position k l ≤ i → i < length l → k ≤ get_or l i 0
position_from k [] r i h g = absurd (not-suc-le-zero g)
position_from k (j ∷ js) r i h g = go (lt_or_le j k) i h g (position_from k js r.1)
  where
    go : (j < k) ⊎ (k ≤ j) → (i : ℕ) → position k (j ∷ js) ≤ i → i < length (j ∷ js) → ((i : ℕ) → position k js ≤ i → i < length js → k ≤ get_or js i 0)
        → k ≤ get_or (j ∷ js) i 0
    go (inr p) i h g below = let q : j ≤ get_or (j ∷ js) i 0 = rising_head j js r (get_or (j ∷ js) i 0) (mem_get_d (j ∷ js) i 0 g) in omega arith
    go (inl p) zero h g below = absurd (not-suc-le-zero (rw (position_after k j js p) at h))
    go (inl p) (suc i) h g below = below i (le_of_suc-le-suc (rw (position_after k j js p) at h)) (le_of_suc-le-suc g)

pub position_take : (k : ℕ) (l : List ℕ) (x : ℕ) → Memᴰ x (take (position k l) l) → x < k
position_take k [] x m = absurd (Memᴰ.not-nil m)
position_take k (j ∷ js) x m = go (lt_or_le j k) (position_take k js x)
  where
    go : (j < k) ⊎ (k ≤ j) → (Memᴰ x (take (position k js) js) → x < k) → x < k
    go (inl h) below = ⊎_elim {C = x < k} (λ (e : x ≡ j). omega arith) below (Memᴰ.cases_cons (rw (position_after k j js h) at m))
    go (inr h) below = absurd (Memᴰ.not-nil (rw (position_here k j js h) at m))

pub position_drop : (k : ℕ) (l : List ℕ) → Rising l → (x : ℕ) → Memᴰ x (drop (position k l) l) → k ≤ x
position_drop k [] r x m = absurd (Memᴰ.not-nil m)
position_drop k (j ∷ js) r x m = go (lt_or_le j k) (position_drop k js r.1 x)
  where
    go : (j < k) ⊎ (k ≤ j) → (Memᴰ x (drop (position k js) js) → k ≤ x) → k ≤ x
    go (inl h) below = below (rw (position_after k j js h) at m)
    go (inr h) below = let p : j ≤ x = rising_head j js r x (rw (position_here k j js h) at m) in omega arith

-- ---- the index that it is: what a search halves its range by, and when it is done

pub get_d_lt_position : (k : ℕ) (l : List ℕ) → Rising l → (i : ℕ) → i < length l → get_or l i 0 < k → i < position k l
get_d_lt_position k l r i h g = le_unless (suc i) (position k l) (λ p. let q : k ≤ get_or l i 0 = position_from k l r i (le_of_suc-le-suc p) h in omega arith)

pub position_is : (k : ℕ) (l : List ℕ) (i : ℕ) → i ≤ length l → ((j : ℕ) → j < i → get_or l j 0 < k) → (i ≡ length l) ⊎ (k ≤ get_or l i 0) → position k l ≡ i
position_is k [] zero h f e = refl
position_is k [] (suc i) h f e = absurd (not-suc-le-zero h)
position_is k (j ∷ js) zero h f (inl e) = absurd (omega arith)
position_is k (j ∷ js) zero h f (inr g) = position_here k j js g
position_is k (j ∷ js) (suc i) h f e =
    position_after k j js (f 0 (omega arith))
    ∙ ap suc (position_is k js i (le_of_suc-le-suc h) (λ n p. f (suc n) (suc-le-suc p)) (rest e))
  where
    rest : (suc i ≡ suc (length js)) ⊎ (k ≤ get_or js i 0) → (i ≡ length js) ⊎ (k ≤ get_or js i 0)
    rest (inl p) = inl (omega arith)
    rest (inr p) = inr p

-- the same for a rising list, of which only the key before needs looking at (for callers that begin from a place found earlier)
pub position_is_rising : (k : ℕ) (l : List ℕ) → Rising l → (i : ℕ) → i < length l → get_or l i 0 < k → (suc i ≡ length l) ⊎ (k ≤ get_or l (suc i) 0)
    → position k l ≡ suc i
position_is_rising k l r i h g e =
    position_is k l (suc i) h (λ j p. let q : get_or l j 0 ≤ get_or l i 0 = rising_get_d_le l r j i (le_of_suc-le-suc p) h in omega arith) e

-- ---- the position of a held key, and the key at a position

pub get_d_position : (k : ℕ) (l : List ℕ) → Rising l → Memᴰ k l → (position k l < length l) × (get_or l (position k l) 0 ≡ k)
get_d_position k [] r m = absurd (Memᴰ.not-nil m)
get_d_position k (j ∷ js) r m = go (order j k) (Memᴰ.cases_cons m) (get_d_position k js r.1)
  where
    go : Order j k → (k ≡ j) ⊎ Memᴰ k js → (Memᴰ k js → (position k js < length js) × (get_or js (position k js) 0 ≡ k))
        → (position k (j ∷ js) < length (j ∷ js)) × (get_or (j ∷ js) (position k (j ∷ js)) 0 ≡ k)
    go (less h) (inl e) below = absurd (omega arith)
    go (less h) (inr n) below = rw (position_after k j js h) (suc-le-suc (below n).0, (below n).1)
    go (equal h) n below = rw (position_here k j js (omega arith)) (omega arith, h)
    go (greater h) (inl e) below = absurd (omega arith)
    go (greater h) (inr n) below = let p : j < k = above_mem j js r.0 k n in absurd (omega arith)

pub position_mem : (k : ℕ) (l : List ℕ) → position k l < length l → get_or l (position k l) 0 ≡ k → Memᴰ k l
position_mem k l h e = Memᴰ.cast (sym e) (mem_get_d l (position k l) 0 h)

-- a key by its position is at that position (for claims by their positions)
pub position_get_d : (l : List ℕ) → Rising l → (i : ℕ) → i < length l → position (get_or l i 0) l ≡ i
position_get_d l r i h = position_is (get_or l i 0) l i (omega arith) (λ j p. rising_get_d l r j i p h) (inr (omega arith))

-- ---- `holds` and `insert` by position

pub holds_position : (k : ℕ) (l : List ℕ) → Rising l → holds k l ≡ (ltb (position k l) (length l) && eqb (get_or l (position k l) 0) k)
holds_position k l r = go (mem_or_absent k l) (ltb (position k l) (length l) && eqb (get_or l (position k l) 0) k) refl
  where
    go : Memᴰ k l ⊎ (Memᴰ k l → ⊥) → (t : Bool) → (ltb (position k l) (length l) && eqb (get_or l (position k l) 0) k) ≡ t
        → holds k l ≡ (ltb (position k l) (length l) && eqb (get_or l (position k l) 0) k)
    go (inl m) t e =
        let p = get_d_position k l r m in
        let below = ltb (position k l) (length l) in
        let there = eqb (get_or l (position k l) 0) k in
        mem_holds k l m ∙ sym (and_both below there (lt-ltb (position k l) (length l) p.0) (eq-eqb (get_or l (position k l) 0) k p.1))
    go (inr f) false e = absent_holds k l f ∙ sym e
    go (inr f) true e =
        let below = ltb (position k l) (length l) in
        let there = eqb (get_or l (position k l) 0) k in
        let h : position k l < length l = ltb-true (position k l) (length l) (and_left below there e) in
        absurd (f (position_mem k l h (eqb-true (get_or l (position k l) 0) k (and_right below there e))))

-- a missing key goes to its position, and what stands there from it on moves up
pub insert_position : (k : ℕ) (l : List ℕ) → (Memᴰ k l → ⊥) → insert k l ≡ take (position k l) l ++ (k ∷ drop (position k l) l)
insert_position k [] f = refl
insert_position k (j ∷ js) f = go (order j k) (insert_position k js (λ m. f (Memᴰ.tail m)))
  where
    go : Order j k → insert k js ≡ take (position k js) js ++ (k ∷ drop (position k js) js)
        → insert k (j ∷ js) ≡ take (position k (j ∷ js)) (j ∷ js) ++ (k ∷ drop (position k (j ∷ js)) (j ∷ js))
    go (less h) below = rw (position_after k j js h, insert_after k j js h) (ap (λ (t : List ℕ). j ∷ t) below)
    go (equal h) below = absurd (f (Memᴰ.head (sym h)))
    go (greater h) below = rw (position_here k j js (omega arith), insert_before k j js h)

-- ---- the order of two positions

pub position_mono : (lo hi : ℕ) (l : List ℕ) → lo ≤ hi → position lo l ≤ position hi l
position_mono lo hi [] h = omega arith
position_mono lo hi (j ∷ js) h = go (lt_or_le j lo) (position_mono lo hi js h)
  where
    go : (j < lo) ⊎ (lo ≤ j) → position lo js ≤ position hi js → position lo (j ∷ js) ≤ position hi (j ∷ js)
    go (inl g) below = rw (position_after lo j js g, position_after hi j js (omega arith)) (suc-le-suc below)
    go (inr g) below = rw (position_here lo j js g) (omega arith)

-- positions of held keys rise as the keys do (for counting between two of them)
pub position_lt : (lo hi : ℕ) (l : List ℕ) → Rising l → lo < hi → Memᴰ lo l → position lo l < position hi l
position_lt lo hi l r h m = let p = get_d_position lo l r m in get_d_lt_position hi l r (position lo l) p.0 (omega (arith, p.1))

-- ---- positions after an insert

pub position_insert_le : (k new : ℕ) (l : List ℕ) → k ≤ new → position k (insert new l) ≡ position k l
position_insert_le k new [] h = position_here k new [] h
position_insert_le k new (j ∷ js) h = go (order j new) (lt_or_le j k) (position_insert_le k new js h)
  where
    go : Order j new → (j < k) ⊎ (k ≤ j) → position k (insert new js) ≡ position k js → position k (insert new (j ∷ js)) ≡ position k (j ∷ js)
    go (less g) (inl p) below = rw (insert_after new j js g, position_after k j js p, position_after k j (insert new js) p) (ap suc below)
    go (less g) (inr p) below = rw (insert_after new j js g, position_here k j js p, position_here k j (insert new js) p)
    go (equal g) c below = rw (insert_here new j js g)
    go (greater g) c below = rw (insert_before new j js g, position_here k new (j ∷ js) h, position_here k j js (omega arith))

pub position_insert_self : (k : ℕ) (l : List ℕ) → position k (insert k l) ≡ position k l
position_insert_self k l = position_insert_le k k l (omega arith)

pub position_insert_missing : (k new : ℕ) (l : List ℕ) → new < k → (Memᴰ new l → ⊥) → position k (insert new l) ≡ suc (position k l)
position_insert_missing k new [] h f = position_after k new [] h
position_insert_missing k new (j ∷ js) h f = go (order j new) (position_insert_missing k new js h (λ m. f (Memᴰ.tail m)))
  where
    go : Order j new → position k (insert new js) ≡ suc (position k js) → position k (insert new (j ∷ js)) ≡ suc (position k (j ∷ js))
    go (less g) below = rw (insert_after new j js g, position_after k j js (omega arith), position_after k j (insert new js) (omega arith)) (ap suc below)
    go (equal g) below = absurd (f (Memᴰ.head (sym g)))
    go (greater g) below = rw (insert_before new j js g, position_after k new (j ∷ js) h)

pub position_insert_held : (k new : ℕ) (l : List ℕ) → Rising l → Memᴰ new l → position k (insert new l) ≡ position k l
position_insert_held k new l r m = ap (position k) (insert_held new l r m)

-- ---- keys entered from a place on leave those before it

pub take_insert : (p k : ℕ) (l : List ℕ) → p ≤ position k l → take p (insert k l) ≡ take p l
take_insert zero k l h = refl
take_insert (suc p) k [] h = absurd (omega arith)
take_insert (suc p) k (j ∷ js) h = go (ltb j k) (take_insert p k js) h
  where
    go : (t : Bool) → (p ≤ position k js → take p (insert k js) ≡ take p js) → suc p ≤ cond t (suc (position k js)) 0
        → take (suc p) (cond t (j ∷ insert k js) (cond (eqb j k) (j ∷ js) (k ∷ (j ∷ js)))) ≡ j ∷ take p js
    go true below g = ap (λ (r : List ℕ). j ∷ r) (below (omega arith))
    go false below g = absurd (omega arith)

module _ (lo : ℕ) where
  pub position_insert_all : (ks l : List ℕ) → ((k : ℕ) → Memᴰ k ks → lo ≤ k) → position lo (insert_all ks l) ≡ position lo l
  position_insert_all [] l f = refl
  position_insert_all (k ∷ ks) l f =
      position_insert_all ks (insert k l) (λ j m. f j (Memᴰ.tail m)) ∙ position_insert_le lo k l (f k (Memᴰ.head refl))

  pub take_insert_all : (ks l : List ℕ) → ((k : ℕ) → Memᴰ k ks → lo ≤ k) → take (position lo l) (insert_all ks l) ≡ take (position lo l) l
  take_insert_all [] l f = refl
  take_insert_all (k ∷ ks) l f =
      let least : lo ≤ k = f k (Memᴰ.head refl) in
      let here : position lo (insert k l) ≡ position lo l = position_insert_le lo k l least in
      ap (λ (p : ℕ). take p (insert_all ks (insert k l))) (sym here)
      ∙ (take_insert_all ks (insert k l) (λ j m. f j (Memᴰ.tail m))
      ∙ (ap (λ (p : ℕ). take p (insert k l)) here ∙ take_insert (position lo l) k l (position_mono lo k l least)))
