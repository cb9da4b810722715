-- Rising lists of keys, as facts and not as tests. In order: `Above`, `Rising` and `Sub`; the tests `rising` and `rises_from` of Store are these
-- facts; membership; parts of a rising list; a rising list is known by its members (the three laws of counting); its keys by their index;
-- the test `holds` of Store is membership.
-- Membership is `List.Memᴰ`. Not here: what `insert` and `position` make of a rising list (Insert, Position). Assumes nothing.
use Prim.Native.Nat.{ℕ, zero, suc, ◌≤◌, ◌<◌, suc-le-suc}
use mathlib.Core.Bool.{Bool, true, false, cond, false≢true}
use mathlib.Core.List.Memᴰ
use mathlib.Core.List.{List, [], ◌∷◌, ◌++◌}
use mathlib.Core.List.{Memᴰ}
use mathlib.Core.Logic.{◌⊎◌, inl, inr, ⊎_elim}
use mathlib.Core.Path.{◌≡◌, refl, sym, ◌∙◌, subst}
use native.Mathlib.Nat.{le_of_suc-le-suc, not-suc-le-zero}
use native.Mathlib.Omega.{arith}
use borrow.Author.Tests.{ltb-true, lt-ltb, eqb-true, eq-eqb}
use lib.Dec.{ltb, eqb}
use lib.ListN.{length, take, drop, get_or, take-append-drop}
use Rattle.keys.specs.Store.{rising, rises_from, holds}
use Rattle.keys.proofs.Tests.{and_left, and_right, and_both, le_unless}

-- ---- the facts

-- every key of the list is greater than k
abbrev pub Above : ℕ → List ℕ → Type 0
Above k [] = Unit
Above k (j ∷ js) = (k < j) × Above k js

-- the keys rise strictly
abbrev pub Rising : List ℕ → Type 0
Rising [] = Unit
Rising (k ∷ ks) = Above k ks × Rising ks

-- every key of l is one of m
abbrev pub Sub : List ℕ → List ℕ → Type 0
Sub l m = (k : ℕ) → Memᴰ k l → Memᴰ k m

-- ---- Above, by members

pub above_mem : (j : ℕ) (l : List ℕ) → Above j l → (k : ℕ) → Memᴰ k l → j < k
above_mem j [] h k m = absurd (Memᴰ.not-nil m)
above_mem j (x ∷ xs) h k (Memᴰ.head e) = let p : j < x = h.0 in omega arith
above_mem j (x ∷ xs) h k (Memᴰ.tail m) = above_mem j xs h.1 k m

pub mem_above : (j : ℕ) (l : List ℕ) → ((k : ℕ) → Memᴰ k l → j < k) → Above j l
mem_above j [] f = tt
mem_above j (x ∷ xs) f = (f x (Memᴰ.head refl), mem_above j xs (λ k m. f k (Memᴰ.tail m)))

pub above_le : (j k : ℕ) (l : List ℕ) → j ≤ k → Above k l → Above j l
above_le j k l h a = mem_above j l (λ x m. let p : k < x = above_mem k l a x m in omega arith)

pub above_sub : (k : ℕ) (l m : List ℕ) → Sub l m → Above k m → Above k l
above_sub k l m s a = mem_above k l (λ x h. above_mem k m a x (s x h))

-- the first key is the least
pub rising_head : (k : ℕ) (ks : List ℕ) → Rising (k ∷ ks) → (x : ℕ) → Memᴰ x (k ∷ ks) → k ≤ x
rising_head k ks r x (Memᴰ.head e) = omega arith
rising_head k ks r x (Memᴰ.tail m) = let p : k < x = above_mem k ks r.0 x m in omega arith

-- ---- the tests

pub rises_from_rising : (k : ℕ) (l : List ℕ) → rises_from k l ≡ true → Rising (k ∷ l)
rises_from_rising k [] h = (tt, tt)
rises_from_rising k (j ∷ js) h =
    let p : k < j = ltb-true k j (and_left (ltb k j) (rises_from j js) h) in
    let r : Rising (j ∷ js) = rises_from_rising j js (and_right (ltb k j) (rises_from j js) h) in
    ((p, above_le k j js (omega arith) r.0), r)

pub rising_rises_from : (k : ℕ) (l : List ℕ) → Rising (k ∷ l) → rises_from k l ≡ true
rising_rises_from k [] r = refl
rising_rises_from k (j ∷ js) r = and_both (ltb k j) (rises_from j js) (lt-ltb k j r.0.0) (rising_rises_from j js r.1)

pub rising_true : (l : List ℕ) → rising l ≡ true → Rising l
rising_true [] h = tt
rising_true (k ∷ ks) h = rises_from_rising k ks h

pub true_rising : (l : List ℕ) → Rising l → rising l ≡ true
true_rising [] r = refl
true_rising (k ∷ ks) r = rising_rises_from k ks r

-- ---- Sub

pub sub_refl : (l : List ℕ) → Sub l l
sub_refl l k m = m

pub sub_trans : (l m n : List ℕ) → Sub l m → Sub m n → Sub l n
sub_trans l m n s t k h = t k (s k h)

pub sub_append_left : (a b : List ℕ) → Sub a (a ++ b)
sub_append_left a b k m = Memᴰ.append_left b m

pub append_sub : (a b m : List ℕ) → Sub a m → Sub b m → Sub (a ++ b) m
append_sub a b m s t k h = ⊎_elim (s k) (t k) (Memᴰ.append_cases a h)

-- the first n things of a list, of any type, are among its things, and so are those behind them
module _ {A : Type 0} (n : ℕ) (l : List A) (x : A) where
  pub take_mem : Memᴰ x (take n l) → Memᴰ x l
  take_mem m = subst (λ (k : List A). Memᴰ x k) (take-append-drop n l) (Memᴰ.append_left (drop n l) m)

  pub drop_mem : Memᴰ x (drop n l) → Memᴰ x l
  drop_mem m = subst (λ (k : List A). Memᴰ x k) (take-append-drop n l) (Memᴰ.append_right (take n l) m)

pub sub_take : (n : ℕ) (l : List ℕ) → Sub (take n l) l
sub_take n l k m = take_mem n l k m

pub sub_drop : (n : ℕ) (l : List ℕ) → Sub (drop n l) l
sub_drop n l k m = drop_mem n l k m

-- a key that no key of l can be is no loss
pub sub_uncons : (j : ℕ) (l m : List ℕ) → Above j l → Sub l (j ∷ m) → Sub l m
sub_uncons j l m a s k h =
    let p : j < k = above_mem j l a k h in
    ⊎_elim {C = Memᴰ k m} (λ (e : k ≡ j). absurd (omega arith)) (λ (g : Memᴰ k m). g) (Memᴰ.cases_cons (s k h))

-- ---- parts of a rising list

pub rising_append_left : (a b : List ℕ) → Rising (a ++ b) → Rising a
rising_append_left [] b r = tt
rising_append_left (k ∷ ks) b r = (above_sub k ks (ks ++ b) (sub_append_left ks b) r.0, rising_append_left ks b r.1)

pub rising_append_right : (a b : List ℕ) → Rising (a ++ b) → Rising b
rising_append_right [] b r = r
rising_append_right (k ∷ ks) b r = rising_append_right ks b r.1

-- every key before the seam is less than every key after it
pub rising_append_lt : (a b : List ℕ) → Rising (a ++ b) → (j k : ℕ) → Memᴰ j a → Memᴰ k b → j < k
rising_append_lt [] b r j k m n = absurd (Memᴰ.not-nil m)
rising_append_lt (x ∷ xs) b r j k (Memᴰ.head e) n = let p : x < k = above_mem x (xs ++ b) r.0 k (Memᴰ.append_right xs n) in omega arith
rising_append_lt (x ∷ xs) b r j k (Memᴰ.tail m) n = rising_append_lt xs b r.1 j k m n

pub rising_append : (a b : List ℕ) → Rising a → Rising b → ((j k : ℕ) → Memᴰ j a → Memᴰ k b → j < k) → Rising (a ++ b)
rising_append [] b r s f = s
rising_append (x ∷ xs) b r s f = (
  mem_above x (xs ++ b) (λ k m. ⊎_elim {C = x < k} (above_mem x xs r.0 k) (f x k (Memᴰ.head refl)) (Memᴰ.append_cases xs m)),
  rising_append xs b r.1 s (λ j k m n. f j k (Memᴰ.tail m) n),
)

pub rising_take : (n : ℕ) (l : List ℕ) → Rising l → Rising (take n l)
rising_take n l r = rising_append_left (take n l) (drop n l) (subst Rising (sym (take-append-drop n l)) r)

pub rising_drop : (n : ℕ) (l : List ℕ) → Rising l → Rising (drop n l)
rising_drop n l r = rising_append_right (take n l) (drop n l) (subst Rising (sym (take-append-drop n l)) r)

-- ---- a rising list is known by its members: the three laws of counting

rising_above_mem : (j k : ℕ) (js ks : List ℕ) → Above j js → Above k ks → Memᴰ k js → Above j (k ∷ ks)
rising_above_mem j k js ks a b m = let p : j < k = above_mem j js a k m in (p, above_le j k ks (omega arith) b)

pub rising_length : (l m : List ℕ) → Rising l → Rising m → Sub l m → length l ≤ length m
rising_length [] [] r q s = omega arith
rising_length (k ∷ ks) [] r q s = absurd (Memᴰ.not-nil (s k (Memᴰ.head refl)))
rising_length [] (j ∷ js) r q s = omega arith
rising_length (k ∷ ks) (j ∷ js) r q s =
    ⊎_elim
    {C = length (k ∷ ks) ≤ length (j ∷ js)}
    (λ (e : k ≡ j). suc-le-suc (rising_length ks js r.1 q.1 (sub_uncons j ks js (above_le j k ks (omega arith) r.0) (λ x m. s x (Memᴰ.tail m)))))
    (λ (h : Memᴰ k js).
    let p : length (k ∷ ks) ≤ length js = rising_length (k ∷ ks) js r q.1 (sub_uncons j (k ∷ ks) js (rising_above_mem j k js ks q.0 r.0 h) s) in
    omega arith)
    (Memᴰ.cases_cons (s k (Memᴰ.head refl)))

pub rising_same : (l m : List ℕ) → Rising l → Rising m → Sub l m → length m ≤ length l → l ≡ m
rising_same [] [] r q s h = refl
rising_same (k ∷ ks) [] r q s h = absurd (Memᴰ.not-nil (s k (Memᴰ.head refl)))
rising_same [] (j ∷ js) r q s h = absurd (not-suc-le-zero h)
rising_same (k ∷ ks) (j ∷ js) r q s h =
    ⊎_elim
    {C = k ∷ ks ≡ j ∷ js}
    (λ (e : k ≡ j).
    let t : Sub ks js = sub_uncons j ks js (above_le j k ks (omega arith) r.0) (λ x m. s x (Memᴰ.tail m)) in
    let p : ks ≡ js = rising_same ks js r.1 q.1 t (le_of_suc-le-suc h) in
    cc)
    (λ (g : Memᴰ k js).
    let p : length (k ∷ ks) ≤ length js = rising_length (k ∷ ks) js r q.1 (sub_uncons j (k ∷ ks) js (rising_above_mem j k js ks q.0 r.0 g) s) in
    absurd (omega arith))
    (Memᴰ.cases_cons (s k (Memᴰ.head refl)))

pub rising_ext : (l m : List ℕ) → Rising l → Rising m → Sub l m → Sub m l → l ≡ m
rising_ext l m r q s t = rising_same l m r q s (rising_length m l q r t)

-- ---- keys by their index

pub mem_get_d : (l : List ℕ) (i d : ℕ) → i < length l → Memᴰ (get_or l i d) l
mem_get_d [] i d h = absurd (not-suc-le-zero h)
mem_get_d (x ∷ xs) zero d h = Memᴰ.head refl
mem_get_d (x ∷ xs) (suc i) d h = Memᴰ.tail (mem_get_d xs i d (le_of_suc-le-suc h))

-- the index of a member
pub mem_index : (l : List ℕ) (k : ℕ) → Memᴰ k l → (i : ℕ) × (i < length l) × (get_or l i 0 ≡ k)
mem_index [] k m = absurd (Memᴰ.not-nil m)
mem_index (x ∷ xs) k (Memᴰ.head e) = (0, omega arith, sym e)
mem_index (x ∷ xs) k (Memᴰ.tail m) = let t = mem_index xs k m in (suc t.0, suc-le-suc t.1, t.2)

pub mem_length : (l : List ℕ) (k : ℕ) → Memᴰ k l → 0 < length l
mem_length [] k m = absurd (Memᴰ.not-nil m)
mem_length (x ∷ xs) k m = omega arith

pub rising_get_d : (l : List ℕ) → Rising l → (i j : ℕ) → i < j → j < length l → get_or l i 0 < get_or l j 0
rising_get_d [] r i j h g = absurd (not-suc-le-zero g)
rising_get_d (x ∷ xs) r i zero h g = absurd (not-suc-le-zero h)
rising_get_d (x ∷ xs) r zero (suc j) h g = above_mem x xs r.0 (get_or xs j 0) (mem_get_d xs j 0 (le_of_suc-le-suc g))
rising_get_d (x ∷ xs) r (suc i) (suc j) h g = rising_get_d xs r.1 i j (le_of_suc-le-suc h) (le_of_suc-le-suc g)

pub rising_get_d_le : (l : List ℕ) → Rising l → (i j : ℕ) → i ≤ j → j < length l → get_or l i 0 ≤ get_or l j 0
rising_get_d_le [] r i j h g = absurd (not-suc-le-zero g)
rising_get_d_le (x ∷ xs) r zero zero h g = omega arith
rising_get_d_le (x ∷ xs) r (suc i) zero h g = absurd (not-suc-le-zero h)
rising_get_d_le (x ∷ xs) r zero (suc j) h g = let p : x < get_or xs j 0 = above_mem x xs r.0 (get_or xs j 0) (mem_get_d xs j 0 (le_of_suc-le-suc g)) in omega arith
rising_get_d_le (x ∷ xs) r (suc i) (suc j) h g = rising_get_d_le xs r.1 i j (le_of_suc-le-suc h) (le_of_suc-le-suc g)

-- .. and so an index is told by its key
pub get_d_rising_lt : (l : List ℕ) → Rising l → (i j : ℕ) → i < length l → get_or l i 0 < get_or l j 0 → i < j
get_d_rising_lt l r i j h g = le_unless (suc i) j (λ p. let q : get_or l j 0 ≤ get_or l i 0 = rising_get_d_le l r j i (le_of_suc-le-suc p) h in omega arith)

-- ---- the test `holds`

pub holds_mem : (k : ℕ) (l : List ℕ) → holds k l ≡ true → Memᴰ k l
holds_mem k [] h = absurd (false≢true h)
holds_mem k (j ∷ js) h = go (eqb j k) refl h (holds_mem k js)
  where
    go : (t : Bool) → eqb j k ≡ t → cond t true (holds k js) ≡ true → (holds k js ≡ true → Memᴰ k js) → Memᴰ k (j ∷ js)
    go true e g below = Memᴰ.head (sym (eqb-true j k e))
    go false e g below = Memᴰ.tail (below g)

pub mem_holds : (k : ℕ) (l : List ℕ) → Memᴰ k l → holds k l ≡ true
mem_holds k [] m = absurd (Memᴰ.not-nil m)
mem_holds k (j ∷ js) (Memᴰ.head e) = rw (eq-eqb j k (sym e))
mem_holds k (j ∷ js) (Memᴰ.tail m) = go (eqb j k) (mem_holds k js m)
  where
    go : (t : Bool) → holds k js ≡ true → cond t true (holds k js) ≡ true
    go true h = refl
    go false h = h

pub holds_absent : (k : ℕ) (l : List ℕ) → holds k l ≡ false → Memᴰ k l → ⊥
holds_absent k l h m = false≢true (sym h ∙ mem_holds k l m)

pub absent_holds : (k : ℕ) (l : List ℕ) → (Memᴰ k l → ⊥) → holds k l ≡ false
absent_holds k l f = go (holds k l) refl
  where
    go : (t : Bool) → holds k l ≡ t → t ≡ false
    go true e = absurd (f (holds_mem k l e))
    go false e = refl

-- a key is held or missing
pub mem_or_absent : (k : ℕ) (l : List ℕ) → Memᴰ k l ⊎ (Memᴰ k l → ⊥)
mem_or_absent k l = go (holds k l) refl
  where
    go : (t : Bool) → holds k l ≡ t → Memᴰ k l ⊎ (Memᴰ k l → ⊥)
    go true e = inl (holds_mem k l e)
    go false e = inr (holds_absent k l e)
