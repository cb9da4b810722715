-- Entering keys: `insert` and `insert_all` of Store. In order, for one key and then for several: the three cases of `insert`; its members
-- are exactly the old and the new; it keeps a list rising; a key already held changes nothing; its length.
-- Not here: the place at which a key is put (Position). Assumes nothing.
use Prim.Native.Nat.{ℕ, suc, ◌+◌, ◌≤◌, ◌<◌, suc-le-suc}
use mathlib.Core.List.Memᴰ
use mathlib.Core.List.{List, [], ◌∷◌, Memᴰ}
use mathlib.Core.Logic.{◌⊎◌, inl, inr, ⊎_elim}
use mathlib.Core.Path.{◌≡◌, refl, sym, ap}
use native.Mathlib.Omega.{arith}
use borrow.Author.Tests.{lt-ltb, le-ltb, eq-eqb, ne_eqb}
use lib.ListN.{length}
use Rattle.keys.specs.Store.{insert, insert_all}
use Rattle.keys.proofs.Tests.{Order, less, equal, greater, order}
use Rattle.keys.proofs.Rising.{Above, Rising, Sub, above_mem, mem_above, rising_ext, rising_same}

-- ---- one key: the three cases

pub insert_after : (k j : ℕ) (js : List ℕ) → j < k → insert k (j ∷ js) ≡ j ∷ insert k js
insert_after k j js h = rw (lt-ltb j k h)

pub insert_here : (k j : ℕ) (js : List ℕ) → j ≡ k → insert k (j ∷ js) ≡ j ∷ js
insert_here k j js e = rw (le-ltb j k (omega arith), eq-eqb j k e)

pub insert_before : (k j : ℕ) (js : List ℕ) → k < j → insert k (j ∷ js) ≡ k ∷ (j ∷ js)
insert_before k j js h = rw (le-ltb j k (omega arith), ne_eqb j k (λ (e : j ≡ k). omega arith))

-- ---- one key: members

pub mem_insert_new : (k : ℕ) (l : List ℕ) → Memᴰ k (insert k l)
mem_insert_new k [] = Memᴰ.head refl
mem_insert_new k (j ∷ js) = go (order j k) (mem_insert_new k js)
  where
    go : Order j k → Memᴰ k (insert k js) → Memᴰ k (insert k (j ∷ js))
    go (less h) below = rw (insert_after k j js h) (Memᴰ.tail below)
    go (equal e) below = rw (insert_here k j js e) (Memᴰ.head (sym e))
    go (greater h) below = rw (insert_before k j js h) (Memᴰ.head refl)

pub mem_insert_old : (k : ℕ) (l : List ℕ) → Sub l (insert k l)
mem_insert_old k [] x m = absurd (Memᴰ.not-nil m)
mem_insert_old k (j ∷ js) x m = go (order j k) (mem_insert_old k js x) (Memᴰ.cases_cons m)
  where
    go : Order j k → (Memᴰ x js → Memᴰ x (insert k js)) → (x ≡ j) ⊎ Memᴰ x js → Memᴰ x (insert k (j ∷ js))
    go (less h) below (inl e) = rw (insert_after k j js h) (Memᴰ.head e)
    go (less h) below (inr n) = rw (insert_after k j js h) (Memᴰ.tail (below n))
    go (equal e) below n = rw (insert_here k j js e) m
    go (greater h) below n = rw (insert_before k j js h) (Memᴰ.tail m)

pub insert_mem : (k : ℕ) (l : List ℕ) (x : ℕ) → Memᴰ x (insert k l) → (x ≡ k) ⊎ Memᴰ x l
insert_mem k [] x m = Memᴰ.cases_cons m
insert_mem k (j ∷ js) x m = go (order j k) (insert_mem k js x)
  where
    step : (Memᴰ x (insert k js) → (x ≡ k) ⊎ Memᴰ x js) → (x ≡ j) ⊎ Memᴰ x (insert k js) → (x ≡ k) ⊎ Memᴰ x (j ∷ js)
    step below (inl e) = inr (Memᴰ.head e)
    step below (inr n) = ⊎_elim {C = (x ≡ k) ⊎ Memᴰ x (j ∷ js)} (λ (e : x ≡ k). inl e) (λ (o : Memᴰ x js). inr (Memᴰ.tail o)) (below n)

    go : Order j k → (Memᴰ x (insert k js) → (x ≡ k) ⊎ Memᴰ x js) → (x ≡ k) ⊎ Memᴰ x (j ∷ js)
    go (less h) below = step below (Memᴰ.cases_cons (rw (insert_after k j js h) at m))
    go (equal e) below = inr (rw (insert_here k j js e) at m)
    go (greater h) below = Memᴰ.cases_cons (rw (insert_before k j js h) at m)

-- with what l has and k, m has all of `insert k l`
pub insert_sub : (k : ℕ) (l m : List ℕ) → Memᴰ k m → Sub l m → Sub (insert k l) m
insert_sub k l m h s x n = ⊎_elim {C = Memᴰ x m} (λ (e : x ≡ k). Memᴰ.cast e h) (s x) (insert_mem k l x n)

-- ---- one key: rising

pub insert_above : (j k : ℕ) (l : List ℕ) → j < k → Above j l → Above j (insert k l)
insert_above j k l h a = mem_above j (insert k l) (λ x m. ⊎_elim {C = j < x} (λ (e : x ≡ k). omega arith) (above_mem j l a x) (insert_mem k l x m))

pub insert_rising : (k : ℕ) (l : List ℕ) → Rising l → Rising (insert k l)
insert_rising k [] r = (tt, tt)
insert_rising k (j ∷ js) r = go (order j k) (insert_rising k js r.1)
  where
    go : Order j k → Rising (insert k js) → Rising (insert k (j ∷ js))
    go (less h) below = rw (insert_after k j js h) (insert_above j k js h r.0, below)
    go (equal e) below = rw (insert_here k j js e) r
    go (greater h) below = rw (insert_before k j js h) ((h, mem_above k js (λ x m. let p : j < x = above_mem j js r.0 x m in omega arith)), r)

pub insert_held : (k : ℕ) (l : List ℕ) → Rising l → Memᴰ k l → insert k l ≡ l
insert_held k l r m = rising_ext (insert k l) l (insert_rising k l r) r (insert_sub k l l m (λ x n. n)) (mem_insert_old k l)

-- ---- one key: length

pub length_insert_missing : (k : ℕ) (l : List ℕ) → (Memᴰ k l → ⊥) → length (insert k l) ≡ suc (length l)
length_insert_missing k [] f = refl
length_insert_missing k (j ∷ js) f = go (order j k) (length_insert_missing k js (λ m. f (Memᴰ.tail m)))
  where
    go : Order j k → length (insert k js) ≡ suc (length js) → length (insert k (j ∷ js)) ≡ suc (length (j ∷ js))
    go (less h) below = rw (insert_after k j js h) (ap suc below)
    go (equal e) below = absurd (f (Memᴰ.head (sym e)))
    go (greater h) below = rw (insert_before k j js h)

pub length_insert_held : (k : ℕ) (l : List ℕ) → Rising l → Memᴰ k l → length (insert k l) ≡ length l
length_insert_held k l r m = ap length (insert_held k l r m)

pub length_insert_ge : (k : ℕ) (l : List ℕ) → length l ≤ length (insert k l)
length_insert_ge k [] = omega arith
length_insert_ge k (j ∷ js) = go (order j k) (length_insert_ge k js)
  where
    go : Order j k → length js ≤ length (insert k js) → length (j ∷ js) ≤ length (insert k (j ∷ js))
    go (less h) below = rw (insert_after k j js h) (suc-le-suc below)
    go (equal e) below = rw (insert_here k j js e) (omega arith)
    go (greater h) below = rw (insert_before k j js h) (omega arith)

pub length_insert_le : (k : ℕ) (l : List ℕ) → length (insert k l) ≤ suc (length l)
length_insert_le k [] = omega arith
length_insert_le k (j ∷ js) = go (order j k) (length_insert_le k js)
  where
    go : Order j k → length (insert k js) ≤ suc (length js) → length (insert k (j ∷ js)) ≤ suc (length (j ∷ js))
    go (less h) below = rw (insert_after k j js h) (suc-le-suc below)
    go (equal e) below = rw (insert_here k j js e) (omega arith)
    go (greater h) below = rw (insert_before k j js h) (omega arith)

-- ---- several keys: members

pub mem_insert_all_old : (ks l : List ℕ) → Sub l (insert_all ks l)
mem_insert_all_old [] l x m = m
mem_insert_all_old (k ∷ ks) l x m = mem_insert_all_old ks (insert k l) x (mem_insert_old k l x m)

pub mem_insert_all_new : (ks l : List ℕ) → Sub ks (insert_all ks l)
mem_insert_all_new [] l x m = absurd (Memᴰ.not-nil m)
mem_insert_all_new (k ∷ ks) l x (Memᴰ.head e) = Memᴰ.cast e (mem_insert_all_old ks (insert k l) k (mem_insert_new k l))
mem_insert_all_new (k ∷ ks) l x (Memᴰ.tail m) = mem_insert_all_new ks (insert k l) x m

pub insert_all_sub : (ks l m : List ℕ) → Sub ks m → Sub l m → Sub (insert_all ks l) m
insert_all_sub [] l m s t = t
insert_all_sub (k ∷ ks) l m s t = insert_all_sub ks (insert k l) m (λ x n. s x (Memᴰ.tail n)) (insert_sub k l m (s k (Memᴰ.head refl)) t)

pub insert_all_mem : (ks l : List ℕ) (x : ℕ) → Memᴰ x (insert_all ks l) → Memᴰ x ks ⊎ Memᴰ x l
insert_all_mem [] l x m = inr m
insert_all_mem (k ∷ ks) l x m =
    ⊎_elim
    {C = Memᴰ x (k ∷ ks) ⊎ Memᴰ x l}
    (λ (n : Memᴰ x ks). inl (Memᴰ.tail n))
    (λ (n : Memᴰ x (insert k l)).
    ⊎_elim {C = Memᴰ x (k ∷ ks) ⊎ Memᴰ x l} (λ (e : x ≡ k). inl (Memᴰ.head e)) (λ (o : Memᴰ x l). inr o) (insert_mem k l x n))
    (insert_all_mem ks (insert k l) x m)

-- ---- several keys: rising, held, length

pub insert_all_rising : (ks l : List ℕ) → Rising l → Rising (insert_all ks l)
insert_all_rising [] l r = r
insert_all_rising (k ∷ ks) l r = insert_all_rising ks (insert k l) (insert_rising k l r)

pub insert_all_held : (ks l : List ℕ) → Rising l → Sub ks l → insert_all ks l ≡ l
insert_all_held ks l r s = rising_ext (insert_all ks l) l (insert_all_rising ks l r) r (insert_all_sub ks l l s (λ x n. n)) (mem_insert_all_old ks l)

pub length_insert_all_ge : (ks l : List ℕ) → length l ≤ length (insert_all ks l)
length_insert_all_ge [] l = omega arith
length_insert_all_ge (k ∷ ks) l = omega (arith, length_insert_ge k l, length_insert_all_ge ks (insert k l))

pub length_insert_all_le : (ks l : List ℕ) → length (insert_all ks l) ≤ length l + length ks
length_insert_all_le [] l = omega arith
length_insert_all_le (k ∷ ks) l = omega (arith, length_insert_le k l, length_insert_all_le ks (insert k l))

-- keys of which none is held
pub length_insert_all_missing : (ks l : List ℕ) → Rising ks → ((k : ℕ) → Memᴰ k ks → Memᴰ k l → ⊥) → length (insert_all ks l) ≡ length l + length ks
length_insert_all_missing [] l r f = omega arith
length_insert_all_missing (k ∷ ks) l r f =
    let one : length (insert k l) ≡ suc (length l) = length_insert_missing k l (f k (Memᴰ.head refl)) in
    let others : length (insert_all ks (insert k l)) ≡ length (insert k l) + length ks
    = length_insert_all_missing ks (insert k l) r.1
    (λ j m n.
    ⊎_elim
    {C = ⊥}
    (λ (e : j ≡ k). omega (arith, above_mem k ks r.0 j m))
    (λ (i : Memᴰ j l). f j (Memᴰ.tail m) i)
    (insert_mem k l j n)) in
    omega arith

-- where the length did not grow, nothing was added
pub insert_all_same : (ks l : List ℕ) → Rising l → length (insert_all ks l) ≤ length l → insert_all ks l ≡ l
insert_all_same ks l r h = sym (rising_same l (insert_all ks l) r (insert_all_rising ks l r) (mem_insert_all_old ks l) h)
