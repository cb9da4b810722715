-- The keys from lo to hi: `between` of Claim. In order: its cases; its members; order and length; all keys or none; a range within a range;
-- joins of lists and of ranges; after an insert; the keys strictly inside (`inside`), and how many fewer they are.
-- Not here: what it has to do with positions (Span). A law that does not ask for `Rising` holds for any list. Assumes nothing.
use Prim.Native.Nat.{ℕ, suc, ◌+◌, ◌-◌, ◌≤◌, ◌<◌, suc-le-suc}
use mathlib.Core.Bool.{and-false}
use mathlib.Core.List.Memᴰ
use mathlib.Core.List.{List, [], ◌∷◌, ◌++◌}
use mathlib.Core.List.{Memᴰ}
use mathlib.Core.Logic.{◌⊎◌, inl, inr, ⊎_elim}
use mathlib.Core.Path.{◌≡◌, refl, ap, ◌∙◌}
use native.Mathlib.Omega.{arith}
use borrow.Author.Tests.{le-leb, lt-leb}
use lib.Dec.{leb}
use lib.ListN.{length, length-append}
use Rattle.keys.specs.Store.{insert}
use Rattle.keys.proofs.Tests.{Order, less, equal, greater, order, lt_or_le}
use Rattle.keys.proofs.Rising.{Rising, Sub, above_mem, above_sub, rising_append, rising_length, rising_ext, append_sub}
use Rattle.keys.proofs.Insert.{insert_after, insert_here, insert_before, mem_insert_new, mem_insert_old, insert_mem, insert_rising}
use Rattle.claims.specs.Claim.{between}

-- ---- the cases

-- where a key lies with respect to lo to hi
pub data Lies (lo hi k : ℕ) : Type 0 where
  within : lo ≤ k → k ≤ hi → Lies lo hi k
  below : k < lo → Lies lo hi k
  beyond : hi < k → Lies lo hi k

pub lies : (lo hi k : ℕ) → Lies lo hi k
lies lo hi k = go (lt_or_le k lo) (lt_or_le hi k)
  where
    go : (k < lo) ⊎ (lo ≤ k) → (hi < k) ⊎ (k ≤ hi) → Lies lo hi k
    go (inl h) g = below h
    go (inr h) (inl g) = beyond g
    go (inr h) (inr g) = within h g

pub between_within : (lo hi k : ℕ) (ks : List ℕ) → lo ≤ k → k ≤ hi → between lo hi (k ∷ ks) ≡ k ∷ between lo hi ks
between_within lo hi k ks h g = rw (le-leb lo k h, le-leb k hi g)

pub between_below : (lo hi k : ℕ) (ks : List ℕ) → k < lo → between lo hi (k ∷ ks) ≡ between lo hi ks
between_below lo hi k ks h = rw (lt-leb lo k h)

pub between_beyond : (lo hi k : ℕ) (ks : List ℕ) → hi < k → between lo hi (k ∷ ks) ≡ between lo hi ks
between_beyond lo hi k ks g = rw (lt-leb k hi g, and-false (leb lo k))

-- ---- members

pub mem_between : (lo hi : ℕ) (l : List ℕ) (k : ℕ) → Memᴰ k l → lo ≤ k → k ≤ hi → Memᴰ k (between lo hi l)
mem_between lo hi [] k m h g = m
mem_between lo hi (x ∷ xs) k m h g = go (lies lo hi x) (Memᴰ.cases_cons m) (λ n. mem_between lo hi xs k n h g)
  where
    go : Lies lo hi x → (k ≡ x) ⊎ Memᴰ k xs → (Memᴰ k xs → Memᴰ k (between lo hi xs)) → Memᴰ k (between lo hi (x ∷ xs))
    go (within p q) (inl e) rest = rw (between_within lo hi x xs p q) (Memᴰ.head e)
    go (within p q) (inr n) rest = rw (between_within lo hi x xs p q) (Memᴰ.tail (rest n))
    go (below p) (inl e) rest = absurd (omega arith)
    go (below p) (inr n) rest = rw (between_below lo hi x xs p) (rest n)
    go (beyond p) (inl e) rest = absurd (omega arith)
    go (beyond p) (inr n) rest = rw (between_beyond lo hi x xs p) (rest n)

pub between_mem : (lo hi : ℕ) (l : List ℕ) (k : ℕ) → Memᴰ k (between lo hi l) → Memᴰ k l × (lo ≤ k) × (k ≤ hi)
between_mem lo hi [] k m = absurd (Memᴰ.not-nil m)
between_mem lo hi (x ∷ xs) k m = go (lies lo hi x) (between_mem lo hi xs k)
  where
    step : Memᴰ k xs × (lo ≤ k) × (k ≤ hi) → Memᴰ k (x ∷ xs) × (lo ≤ k) × (k ≤ hi)
    step t = (Memᴰ.tail t.0, t.1, t.2)

    go : Lies lo hi x → (Memᴰ k (between lo hi xs) → Memᴰ k xs × (lo ≤ k) × (k ≤ hi)) → Memᴰ k (x ∷ xs) × (lo ≤ k) × (k ≤ hi)
    go (within p q) rest =
        ⊎_elim
        {C = Memᴰ k (x ∷ xs) × (lo ≤ k) × (k ≤ hi)}
        (λ (e : k ≡ x). (Memᴰ.head e, omega arith, omega arith))
        (λ (n : Memᴰ k (between lo hi xs)). step (rest n))
        (Memᴰ.cases_cons (rw (between_within lo hi x xs p q) at m))
    go (below p) rest = step (rest (rw (between_below lo hi x xs p) at m))
    go (beyond p) rest = step (rest (rw (between_beyond lo hi x xs p) at m))

pub between_sub : (lo hi : ℕ) (l : List ℕ) → Sub (between lo hi l) l
between_sub lo hi l k m = (between_mem lo hi l k m).0

pub sub_between : (lo hi : ℕ) (l m : List ℕ) → Sub l m → Sub (between lo hi l) (between lo hi m)
sub_between lo hi l m s k n = let t = between_mem lo hi l k n in mem_between lo hi m k (s k t.0) t.1 t.2

-- a wider range has more
pub between_widen : (lo hi a b : ℕ) (l : List ℕ) → lo ≤ a → b ≤ hi → Sub (between a b l) (between lo hi l)
between_widen lo hi a b l h g k n =
    let t = between_mem a b l k n in
    let p : a ≤ k = t.1 in
    let q : k ≤ b = t.2 in
    mem_between lo hi l k t.0 (omega arith) (omega arith)

-- ---- order and length

pub between_rising : (lo hi : ℕ) (l : List ℕ) → Rising l → Rising (between lo hi l)
between_rising lo hi [] r = tt
between_rising lo hi (x ∷ xs) r = go (lies lo hi x) (between_rising lo hi xs r.1)
  where
    go : Lies lo hi x → Rising (between lo hi xs) → Rising (between lo hi (x ∷ xs))
    go (within p q) rest = rw (between_within lo hi x xs p q) (above_sub x (between lo hi xs) xs (between_sub lo hi xs) r.0, rest)
    go (below p) rest = rw (between_below lo hi x xs p) rest
    go (beyond p) rest = rw (between_beyond lo hi x xs p) rest

pub length_between : (lo hi : ℕ) (l : List ℕ) → length (between lo hi l) ≤ length l
length_between lo hi [] = omega arith
length_between lo hi (x ∷ xs) = go (lies lo hi x) (length_between lo hi xs)
  where
    go : Lies lo hi x → length (between lo hi xs) ≤ length xs → length (between lo hi (x ∷ xs)) ≤ length (x ∷ xs)
    go (within p q) rest = rw (between_within lo hi x xs p q) (suc-le-suc rest)
    go (below p) rest = rw (between_below lo hi x xs p) (omega arith)
    go (beyond p) rest = rw (between_beyond lo hi x xs p) (omega arith)

pub length_sub_between : (lo hi : ℕ) (l m : List ℕ) → Rising l → Rising m → Sub l m → length (between lo hi l) ≤ length (between lo hi m)
length_sub_between lo hi l m r q s =
    rising_length (between lo hi l) (between lo hi m) (between_rising lo hi l r) (between_rising lo hi m q) (sub_between lo hi l m s)

-- of rising numbers from lo to hi there are at most hi − lo + 1
pub length_rising_range : (lo hi : ℕ) (l : List ℕ) → Rising l → ((k : ℕ) → Memᴰ k l → (lo ≤ k) × (k ≤ hi)) → length l ≤ hi - lo + 1
length_rising_range lo hi [] r f = omega arith
length_rising_range lo hi (x ∷ xs) r f =
    let g : (k : ℕ) → Memᴰ k xs → (suc x ≤ k) × (k ≤ hi) = λ k m. (above_mem x xs r.0 k m, (f k (Memᴰ.tail m)).1) in
    go (lt_or_le x hi) (length_rising_range (suc x) hi xs r.1 g) (f x (Memᴰ.head refl)) g
  where
    none : (ks : List ℕ) → ((k : ℕ) → Memᴰ k ks → (x < k) × (k ≤ hi)) → hi ≤ x → length ks ≤ 0
    none [] g h = omega arith
    none (k ∷ ks) g h = let t = g k (Memᴰ.head refl) in absurd (omega (arith, t.0, t.1))

    go : (x < hi) ⊎ (hi ≤ x) → length xs ≤ hi - suc x + 1 → (lo ≤ x) × (x ≤ hi)
        → ((k : ℕ) → Memᴰ k xs → (x < k) × (k ≤ hi)) → length (x ∷ xs) ≤ hi - lo + 1
    go (inl h) rest b g = let p : lo ≤ x = b.0 in omega arith
    go (inr h) rest b g = let p : length xs ≤ 0 = none xs g h in omega arith

-- ---- all keys, or none; a range within a range

pub between_all : (lo hi : ℕ) (l : List ℕ) → ((k : ℕ) → Memᴰ k l → (lo ≤ k) × (k ≤ hi)) → between lo hi l ≡ l
between_all lo hi [] f = refl
between_all lo hi (x ∷ xs) f =
    let t = f x (Memᴰ.head refl) in
    between_within lo hi x xs t.0 t.1 ∙ ap (λ (ks : List ℕ). x ∷ ks) (between_all lo hi xs (λ k m. f k (Memᴰ.tail m)))

pub between_none : (lo hi : ℕ) (l : List ℕ) → ((k : ℕ) → Memᴰ k l → lo ≤ k → k ≤ hi → ⊥) → between lo hi l ≡ []
between_none lo hi [] f = refl
between_none lo hi (x ∷ xs) f = go (lies lo hi x) (between_none lo hi xs (λ k m. f k (Memᴰ.tail m)))
  where
    go : Lies lo hi x → between lo hi xs ≡ [] → between lo hi (x ∷ xs) ≡ []
    go (within p q) rest = absurd (f x (Memᴰ.head refl) p q)
    go (below p) rest = rw (between_below lo hi x xs p) rest
    go (beyond p) rest = rw (between_beyond lo hi x xs p) rest

pub between_between : (lo hi a b : ℕ) (l : List ℕ) → lo ≤ a → b ≤ hi → between a b (between lo hi l) ≡ between a b l
between_between lo hi a b [] h g = refl
between_between lo hi a b (x ∷ xs) h g = go (lies lo hi x) (lies a b x) (between_between lo hi a b xs h g)
  where
    go : Lies lo hi x → Lies a b x → between a b (between lo hi xs) ≡ between a b xs → between a b (between lo hi (x ∷ xs)) ≡ between a b (x ∷ xs)
    go (within p q) (within u v) rest =
        rw (between_within lo hi x xs p q, between_within a b x xs u v, between_within a b x (between lo hi xs) u v) (ap (λ (ks : List ℕ). x ∷ ks) rest)
    go (within p q) (below u) rest = rw (between_within lo hi x xs p q, between_below a b x xs u, between_below a b x (between lo hi xs) u) rest
    go (within p q) (beyond u) rest = rw (between_within lo hi x xs p q, between_beyond a b x xs u, between_beyond a b x (between lo hi xs) u) rest
    go (below p) (within u v) rest = absurd (omega arith)
    go (below p) (below u) rest = rw (between_below lo hi x xs p, between_below a b x xs u) rest
    go (below p) (beyond u) rest = rw (between_below lo hi x xs p, between_beyond a b x xs u) rest
    go (beyond p) (within u v) rest = absurd (omega arith)
    go (beyond p) (below u) rest = rw (between_beyond lo hi x xs p, between_below a b x xs u) rest
    go (beyond p) (beyond u) rest = rw (between_beyond lo hi x xs p, between_beyond a b x xs u) rest

-- ---- joins

pub between_append : (lo hi : ℕ) (a b : List ℕ) → between lo hi (a ++ b) ≡ between lo hi a ++ between lo hi b
between_append lo hi [] b = refl
between_append lo hi (x ∷ xs) b = go (lies lo hi x) (between_append lo hi xs b)
  where
    go : Lies lo hi x → between lo hi (xs ++ b) ≡ between lo hi xs ++ between lo hi b
        → between lo hi (x ∷ (xs ++ b)) ≡ between lo hi (x ∷ xs) ++ between lo hi b
    go (within p q) rest = rw (between_within lo hi x xs p q, between_within lo hi x (xs ++ b) p q) (ap (λ (ks : List ℕ). x ∷ ks) rest)
    go (below p) rest = rw (between_below lo hi x xs p, between_below lo hi x (xs ++ b) p) rest
    go (beyond p) rest = rw (between_beyond lo hi x xs p, between_beyond lo hi x (xs ++ b) p) rest

-- two ranges, one below the other
pub between_join_rising : (a b c d : ℕ) (l : List ℕ) → Rising l → b < c → Rising (between a b l ++ between c d l)
between_join_rising a b c d l r h =
    rising_append (between a b l) (between c d l) (between_rising a b l r) (between_rising c d l r)
    (λ j k m n. let p : j ≤ b = (between_mem a b l j m).2 in let q : c ≤ k = (between_mem c d l k n).1 in omega arith)

-- a range cut in two after m
pub between_join : (lo m hi : ℕ) (l : List ℕ) → Rising l → lo ≤ suc m → m ≤ hi → between lo hi l ≡ between lo m l ++ between (suc m) hi l
between_join lo m hi l r h g =
    rising_ext (between lo hi l) (between lo m l ++ between (suc m) hi l) (between_rising lo hi l r) (between_join_rising lo m (suc m) hi l r (omega arith))
    (λ k n.
    let t = between_mem lo hi l k n in
    ⊎_elim
    {C = Memᴰ k (between lo m l ++ between (suc m) hi l)}
    (λ (p : m < k). Memᴰ.append_right (between lo m l) (mem_between (suc m) hi l k t.0 p t.2))
    (λ (p : k ≤ m). Memᴰ.append_left (between (suc m) hi l) (mem_between lo m l k t.0 t.1 p))
    (lt_or_le m k))
    (append_sub (between lo m l) (between (suc m) hi l) (between lo hi l) (between_widen lo hi lo m l (omega arith) g)
    (between_widen lo hi (suc m) hi l h (omega arith)))

-- ---- after an insert

pub between_insert_outside : (lo hi k : ℕ) (l : List ℕ) → (k < lo) ⊎ (hi < k) → between lo hi (insert k l) ≡ between lo hi l
between_insert_outside lo hi k [] (inl h) = between_below lo hi k [] h
between_insert_outside lo hi k [] (inr h) = between_beyond lo hi k [] h
between_insert_outside lo hi k (x ∷ xs) c = go (order x k) (lies lo hi x) c (between_insert_outside lo hi k xs c)
  where
    go : Order x k → Lies lo hi x → (k < lo) ⊎ (hi < k) → between lo hi (insert k xs) ≡ between lo hi xs
        → between lo hi (insert k (x ∷ xs)) ≡ between lo hi (x ∷ xs)
    go (less g) (within p q) o rest =
        rw (insert_after k x xs g, between_within lo hi x xs p q, between_within lo hi x (insert k xs) p q) (ap (λ (ks : List ℕ). x ∷ ks) rest)
    go (less g) (below p) o rest = rw (insert_after k x xs g, between_below lo hi x xs p, between_below lo hi x (insert k xs) p) rest
    go (less g) (beyond p) o rest = rw (insert_after k x xs g, between_beyond lo hi x xs p, between_beyond lo hi x (insert k xs) p) rest
    go (equal g) z o rest = rw (insert_here k x xs g)
    go (greater g) z (inl h) rest = rw (insert_before k x xs g, between_below lo hi k (x ∷ xs) h)
    go (greater g) z (inr h) rest = rw (insert_before k x xs g, between_beyond lo hi k (x ∷ xs) h)

pub between_insert_within : (lo hi k : ℕ) (l : List ℕ) → Rising l → lo ≤ k → k ≤ hi → between lo hi (insert k l) ≡ insert k (between lo hi l)
between_insert_within lo hi k l r h g =
    rising_ext (between lo hi (insert k l)) (insert k (between lo hi l))
    (between_rising lo hi (insert k l) (insert_rising k l r))
    (insert_rising k (between lo hi l) (between_rising lo hi l r))
    (λ x m.
    let t = between_mem lo hi (insert k l) x m in
    ⊎_elim
    {C = Memᴰ x (insert k (between lo hi l))}
    (λ (e : x ≡ k). Memᴰ.cast e (mem_insert_new k (between lo hi l)))
    (λ (n : Memᴰ x l). mem_insert_old k (between lo hi l) x (mem_between lo hi l x n t.1 t.2))
    (insert_mem k l x t.0))
    (λ x m.
    ⊎_elim
    {C = Memᴰ x (between lo hi (insert k l))}
    (λ (e : x ≡ k). Memᴰ.cast e (mem_between lo hi (insert k l) k (mem_insert_new k l) h g))
    (λ (n : Memᴰ x (between lo hi l)). sub_between lo hi l (insert k l) (mem_insert_old k l) x n)
    (insert_mem k (between lo hi l) x m))

-- ---- strictly inside

-- the keys of l strictly between lo and hi
abbrev pub inside : ℕ → ℕ → List ℕ → List ℕ
inside lo hi l = between (suc lo) (hi - 1) l

pub mem_inside : (lo hi : ℕ) (l : List ℕ) (k : ℕ) → Memᴰ k l → lo < k → k < hi → Memᴰ k (inside lo hi l)
mem_inside lo hi l k m h g = mem_between (suc lo) (hi - 1) l k m h (omega arith)

pub inside_mem : (lo hi : ℕ) (l : List ℕ) (k : ℕ) → Memᴰ k (inside lo hi l) → Memᴰ k l × (lo < k) × (k < hi)
inside_mem lo hi l k m =
    let t = between_mem (suc lo) (hi - 1) l k m in
    let p : lo < k = t.1 in
    let q : k ≤ hi - 1 = t.2 in
    (t.0, p, omega arith)

pub between_one : (k : ℕ) (l : List ℕ) → Rising l → Memᴰ k l → between k k l ≡ k ∷ []
between_one k l r m =
    rising_ext (between k k l) (k ∷ []) (between_rising k k l r) (tt, tt)
    (λ x n. let t = between_mem k k l x n in Memᴰ.head (omega (arith, t.1, t.2)))
    (λ x n. Memᴰ.cast (Memᴰ.eq_of_singleton n) (mem_between k k l k m (omega arith) (omega arith)))

pub between_inside : (lo hi : ℕ) (l : List ℕ) → Rising l → lo < hi → Memᴰ lo l → Memᴰ hi l → between lo hi l ≡ lo ∷ (inside lo hi l ++ (hi ∷ []))
between_inside lo hi l r h m n =
    let e : suc (hi - 1) ≡ hi = omega arith in
    between_join lo lo hi l r (omega arith) (omega arith)
    ∙ ap (λ (t : List ℕ). t ++ between (suc lo) hi l) (between_one lo l r m)
    ∙ ap (λ (t : List ℕ). lo ∷ t)
    (between_join (suc lo) (hi - 1) hi l r (omega arith) (omega arith)
    ∙ ap (λ (t : List ℕ). inside lo hi l ++ t) (ap (λ (k : ℕ). between k hi l) e ∙ between_one hi l r n))

pub length_between_inside : (lo hi : ℕ) (l : List ℕ) → Rising l → lo < hi → Memᴰ lo l → Memᴰ hi l
    → length (between lo hi l) ≡ length (inside lo hi l) + 2
length_between_inside lo hi l r h m n = ap length (between_inside lo hi l r h m n) ∙ ap suc (length-append (inside lo hi l) (hi ∷ [])) ∙ (omega arith)

-- a range strictly inside has at least two keys fewer ..
pub length_between_within : (lo hi a b : ℕ) (l : List ℕ) → Rising l → lo < hi → Memᴰ lo l → Memᴰ hi l → lo < a → b < hi
    → length (between a b l) + 2 ≤ length (between lo hi l)
length_between_within lo hi a b l r h m n p q =
    let e : length (between lo hi l) ≡ length (inside lo hi l) + 2 = length_between_inside lo hi l r h m n in
    let s : length (between a b l) ≤ length (inside lo hi l)
    = rising_length (between a b l) (inside lo hi l) (between_rising a b l r) (between_rising (suc lo) (hi - 1) l r)
    (between_widen (suc lo) (hi - 1) a b l p (omega arith)) in
    omega arith

-- .. and so have two ranges, one below the other
pub length_between_two : (lo hi a b c d : ℕ) (l : List ℕ) → Rising l → lo < hi → Memᴰ lo l → Memᴰ hi l → lo < a → b < c → lo < c → b < hi → d < hi
    → length (between a b l) + length (between c d l) + 2 ≤ length (between lo hi l)
length_between_two lo hi a b c d l r h m n p q u v w =
    let e : length (between lo hi l) ≡ length (inside lo hi l) + 2 = length_between_inside lo hi l r h m n in
    let s : length (between a b l ++ between c d l) ≤ length (inside lo hi l)
    = rising_length (between a b l ++ between c d l) (inside lo hi l) (between_join_rising a b c d l r q) (between_rising (suc lo) (hi - 1) l r)
    (append_sub (between a b l) (between c d l) (inside lo hi l)
    (between_widen (suc lo) (hi - 1) a b l p (omega arith))
    (between_widen (suc lo) (hi - 1) c d l u (omega arith))) in
    let f : length (between a b l ++ between c d l) ≡ length (between a b l) + length (between c d l) = length-append (between a b l) (between c d l) in
    omega arith
