-- The keys at positions i to j: `span` of Claim, and what it has to do with `between`. In order: the first and the last key of a list; the keys from the
-- first to the last are all of them; length, keys and cuts of a span; the bridge, `span_between`: positions i to j of rising keys are the keys from key i
-- to key j. Above this file nothing needs positions. Assumes nothing.
use Prim.Native.Nat.{ℕ, zero, suc, ◌+◌, ◌-◌, ◌≤◌, ◌<◌}
use mathlib.Core.List.{List, [], ◌∷◌, ◌++◌, Memᴰ}
use mathlib.Core.Logic.{⊎_elim}
use mathlib.Core.Path.{◌≡◌, refl, sym, ap, ◌∙◌}
use native.Mathlib.Nat.{le_of_suc-le-suc, not-suc-le-zero}
use native.Mathlib.Omega.{arith}
use lib.ListN.{length, take, drop, get_or, length-drop}
use lib.Seq.{length-take-le, get_or-take, get_or-drop, take-add, drop-drop}
use Rattle.keys.proofs.Rising.{Rising, above_mem, rising_head, rising_take, rising_drop, rising_ext}
use Rattle.keys.proofs.Rising.{mem_get_d, mem_length, mem_index, rising_get_d, rising_get_d_le, get_d_rising_lt}
use Rattle.claims.specs.Claim.{span, between}
use Rattle.claims.proofs.Between.{between_within, between_below, between_all, between_none, between_mem, mem_between}
use Rattle.claims.proofs.Between.{between_rising, between_widen, inside, inside_mem}

-- ---- the first and the last key

abbrev pub first : List ℕ → ℕ
first [] = 0
first (k ∷ ks) = k

abbrev pub last : List ℕ → ℕ
last [] = 0
last (k ∷ []) = k
last (k ∷ (j ∷ js)) = last (j ∷ js)

pub first_get_d : (l : List ℕ) → first l ≡ get_or l 0 0
first_get_d [] = refl
first_get_d (k ∷ ks) = refl

pub last_get_d : (l : List ℕ) → last l ≡ get_or l (length l - 1) 0
last_get_d [] = refl
last_get_d (k ∷ ks) = last_get_d_cons k ks ∙ ap (λ (n : ℕ). get_or (k ∷ ks) n 0) (let e : length ks ≡ suc (length ks) - 1 = omega arith in e)
  where
    last_get_d_cons : (x : ℕ) (xs : List ℕ) → last (x ∷ xs) ≡ get_or (x ∷ xs) (length xs) 0
    last_get_d_cons x [] = refl
    last_get_d_cons x (y ∷ ys) = last_get_d_cons y ys

pub mem_first : (l : List ℕ) → 0 < length l → Memᴰ (first l) l
mem_first [] h = absurd (not-suc-le-zero h)
mem_first (k ∷ ks) h = mathlib.Core.List.Memᴰ.head refl

pub mem_last : (l : List ℕ) → 0 < length l → Memᴰ (last l) l
mem_last [] h = absurd (not-suc-le-zero h)
mem_last (k ∷ []) h = mathlib.Core.List.Memᴰ.head refl
mem_last (k ∷ (j ∷ js)) h = mathlib.Core.List.Memᴰ.tail (mem_last (j ∷ js) (omega arith))

pub last_append : (a b : List ℕ) → 0 < length b → last (a ++ b) ≡ last b
last_append [] b h = refl
last_append (x ∷ []) [] h = absurd (not-suc-le-zero h)
last_append (x ∷ []) (y ∷ ys) h = refl
last_append (x ∷ (z ∷ zs)) b h = last_append (z ∷ zs) b h

pub first_le : (l : List ℕ) → Rising l → (k : ℕ) → Memᴰ k l → first l ≤ k
first_le [] r k m = absurd (mathlib.Core.List.Memᴰ.not-nil m)
first_le (x ∷ xs) r k m = rising_head x xs r k m

pub le_last : (l : List ℕ) → Rising l → (k : ℕ) → Memᴰ k l → k ≤ last l
le_last [] r k m = absurd (mathlib.Core.List.Memᴰ.not-nil m)
le_last (x ∷ []) r k m = ⊎_elim {C = k ≤ x} (λ (e : k ≡ x). omega arith) (λ (n : Memᴰ k []). absurd (mathlib.Core.List.Memᴰ.not-nil n)) (mathlib.Core.List.Memᴰ.cases_cons m)
le_last (x ∷ (y ∷ ys)) r k m =
    ⊎_elim
    {C = k ≤ last (y ∷ ys)}
    (λ (e : k ≡ x). let p : y ≤ last (y ∷ ys) = le_last (y ∷ ys) r.1 y (mathlib.Core.List.Memᴰ.head refl) in let q : x < y = r.0.0 in omega arith)
    (λ (n : Memᴰ k (y ∷ ys)). le_last (y ∷ ys) r.1 k n)
    (mathlib.Core.List.Memᴰ.cases_cons m)

pub first_le_last : (l : List ℕ) → Rising l → first l ≤ last l
first_le_last [] r = omega arith
first_le_last (x ∷ xs) r = le_last (x ∷ xs) r x (mathlib.Core.List.Memᴰ.head refl)

pub first_lt_last : (l : List ℕ) → Rising l → 2 ≤ length l → first l < last l
first_lt_last [] r h = absurd (not-suc-le-zero h)
first_lt_last (x ∷ []) r h = absurd (omega arith)
first_lt_last (x ∷ (y ∷ ys)) r h = above_mem x (y ∷ ys) r.0 (last (y ∷ ys)) (mem_last (y ∷ ys) (omega arith))

pub no_keys : (l : List ℕ) → length l ≡ 0 → l ≡ []
no_keys [] e = refl
no_keys (x ∷ xs) e = absurd (omega arith)

pub one_key : (l : List ℕ) → length l ≡ 1 → l ≡ first l ∷ []
one_key [] e = absurd (omega arith)
one_key (x ∷ []) e = refl
one_key (x ∷ (y ∷ ys)) e = absurd (omega arith)

pub two_keys : (l : List ℕ) → length l ≡ 2 → l ≡ first l ∷ last l ∷ []
two_keys [] e = absurd (omega arith)
two_keys (x ∷ []) e = absurd (omega arith)
two_keys (x ∷ (y ∷ [])) e = refl
two_keys (x ∷ (y ∷ (z ∷ zs))) e = absurd (omega arith)

-- ---- from the first key of a part to its last

pub between_first_last : (l : List ℕ) → Rising l → between (first l) (last l) l ≡ l
between_first_last l r = between_all (first l) (last l) l (λ k m. (first_le l r k m, le_last l r k m))

pub first_between : (lo hi : ℕ) (l : List ℕ) → Rising l → lo ≤ hi → Memᴰ lo l → first (between lo hi l) ≡ lo
first_between lo hi l r h m =
    let n : Memᴰ lo (between lo hi l) = mem_between lo hi l lo m (omega arith) h in
    let p : first (between lo hi l) ≤ lo = first_le (between lo hi l) (between_rising lo hi l r) lo n in
    let q : lo ≤ first (between lo hi l) = (between_mem lo hi l (first (between lo hi l)) (mem_first (between lo hi l) (mem_length (between lo hi l) lo n))).1 in
    omega arith

pub last_between : (lo hi : ℕ) (l : List ℕ) → Rising l → lo ≤ hi → Memᴰ hi l → last (between lo hi l) ≡ hi
last_between lo hi l r h m =
    let n : Memᴰ hi (between lo hi l) = mem_between lo hi l hi m h (omega arith) in
    let p : hi ≤ last (between lo hi l) = le_last (between lo hi l) (between_rising lo hi l r) hi n in
    let q : last (between lo hi l) ≤ hi = (between_mem lo hi l (last (between lo hi l)) (mem_last (between lo hi l) (mem_length (between lo hi l) hi n))).2 in
    omega arith

-- ---- length, keys and cuts of a span

pub length_span : (i j : ℕ) (l : List ℕ) → i ≤ j → j < length l → length (span i j l) ≡ j - i + 1
length_span i j l h g = let e : length (drop i l) ≡ length l - i = length-drop i l in length-take-le (j - i + 1) (drop i l) (omega arith)

pub get_d_span : (i j n : ℕ) (l : List ℕ) → n ≤ j - i → get_or (span i j l) n 0 ≡ get_or l (i + n) 0
get_d_span i j n l h = get_or-take (j - i + 1) (drop i l) n 0 (omega arith) ∙ get_or-drop i l n 0

pub first_span : (i j : ℕ) (l : List ℕ) → first (span i j l) ≡ get_or l i 0
first_span i j l = first_get_d (span i j l) ∙ get_d_span i j 0 l (omega arith) ∙ ap (λ (n : ℕ). get_or l n 0) (let e : i + 0 ≡ i = omega arith in e)

pub last_span : (i j : ℕ) (l : List ℕ) → i ≤ j → j < length l → last (span i j l) ≡ get_or l j 0
last_span i j l h g =
    let n : length (span i j l) ≡ j - i + 1 = length_span i j l h g in
    let e : length (span i j l) - 1 ≡ j - i = omega arith in
    let f : i + (j - i) ≡ j = omega arith in
    last_get_d (span i j l) ∙ ap (λ (t : ℕ). get_or (span i j l) t 0) e ∙ get_d_span i j (j - i) l (omega arith) ∙ ap (λ (t : ℕ). get_or l t 0) f

pub span_rising : (i j : ℕ) (l : List ℕ) → Rising l → Rising (span i j l)
span_rising i j l r = rising_take (j - i + 1) (drop i l) (rising_drop i l r)

-- a span cut in two after position m
pub span_join : (i m j : ℕ) (l : List ℕ) → i ≤ m → m < j → span i j l ≡ span i m l ++ span (m + 1) j l
span_join i m j l h g =
    let e : j - i + 1 ≡ (m - i + 1) + (j - (m + 1) + 1) = omega arith in
    let f : i + (m - i + 1) ≡ m + 1 = omega arith in
    ap (λ (n : ℕ). take n (drop i l)) e
    ∙ take-add (m - i + 1) (j - (m + 1) + 1) (drop i l)
    ∙ ap (λ (t : List ℕ). span i m l ++ take (j - (m + 1) + 1) t) (drop-drop (m - i + 1) i l ∙ ap (λ (n : ℕ). drop n l) f)

-- ---- the bridge

-- the first j + 1 of rising keys that all are at least lo
take_between : (lo j : ℕ) (l : List ℕ) → Rising l → ((k : ℕ) → Memᴰ k l → lo ≤ k) → j < length l → take (suc j) l ≡ between lo (get_or l j 0) l
take_between lo j [] r f h = absurd (not-suc-le-zero h)
take_between lo zero (x ∷ xs) r f h =
    sym
    (between_within lo x x xs (f x (mathlib.Core.List.Memᴰ.head refl)) (omega arith)
    ∙ ap (λ (t : List ℕ). x ∷ t) (between_none lo x xs (λ k m p q. let g : x < k = above_mem x xs r.0 k m in omega arith)))
take_between lo (suc j) (x ∷ xs) r f h =
    let g : x < get_or xs j 0 = above_mem x xs r.0 (get_or xs j 0) (mem_get_d xs j 0 (le_of_suc-le-suc h)) in
    ap (λ (t : List ℕ). x ∷ t) (take_between lo j xs r.1 (λ k m. f k (mathlib.Core.List.Memᴰ.tail m)) (le_of_suc-le-suc h))
    ∙ sym (between_within lo (get_or xs j 0) x xs (f x (mathlib.Core.List.Memᴰ.head refl)) (omega arith))

pub span_between : (i j : ℕ) (l : List ℕ) → Rising l → i ≤ j → j < length l → span i j l ≡ between (get_or l i 0) (get_or l j 0) l
span_between i j [] r h g = absurd (not-suc-le-zero g)
span_between zero j (x ∷ xs) r h g =
    let e : j - 0 + 1 ≡ suc j = omega arith in
    ap (λ (n : ℕ). take n (x ∷ xs)) e ∙ take_between x j (x ∷ xs) r (rising_head x xs r) g
span_between (suc i) zero (x ∷ xs) r h g = absurd (not-suc-le-zero h)
span_between (suc i) (suc j) (x ∷ xs) r h g =
    let e : suc j - suc i + 1 ≡ j - i + 1 = omega arith in
    let p : j < length xs = le_of_suc-le-suc g in
    ap (λ (n : ℕ). take n (drop i xs)) e
    ∙ span_between i j xs r.1 (le_of_suc-le-suc h) p
    ∙ sym (between_below (get_or xs i 0) (get_or xs j 0) x xs (above_mem x xs r.0 (get_or xs i 0) (mem_get_d xs i 0 (omega arith))))

-- a span is all that lies from its first key to its last
pub between_span : (i j : ℕ) (l : List ℕ) → Rising l → i ≤ j → j < length l → between (first (span i j l)) (last (span i j l)) l ≡ span i j l
between_span i j l r h g = rw (first_span i j l, last_span i j l h g) (sym (span_between i j l r h g))

-- the positions after i and before j have the keys strictly between key i and key j
pub span_inside : (i j : ℕ) (l : List ℕ) → Rising l → i + 1 ≤ j - 1 → j < length l → span (i + 1) (j - 1) l ≡ inside (get_or l i 0) (get_or l j 0) l
span_inside i j l r h g =
    let after : get_or l i 0 < get_or l (i + 1) 0 = rising_get_d l r i (i + 1) (omega arith) (omega arith) in
    let before : get_or l (j - 1) 0 < get_or l j 0 = rising_get_d l r (j - 1) j (omega arith) g in
    span_between (i + 1) (j - 1) l r h (omega arith)
    ∙ rising_ext (between (get_or l (i + 1) 0) (get_or l (j - 1) 0) l) (inside (get_or l i 0) (get_or l j 0) l)
    (between_rising (get_or l (i + 1) 0) (get_or l (j - 1) 0) l r) (between_rising (suc (get_or l i 0)) (get_or l j 0 - 1) l r)
    (between_widen (suc (get_or l i 0)) (get_or l j 0 - 1) (get_or l (i + 1) 0) (get_or l (j - 1) 0) l after (omega arith))
    (λ k m.
    let t = inside_mem (get_or l i 0) (get_or l j 0) l k m in
    let x = mem_index l k t.0 in
    let e : get_or l x.0 0 ≡ k = x.2 in
    let a : get_or l i 0 < k = t.1 in
    let b : k < get_or l j 0 = t.2 in
    let p : i < x.0 = get_d_rising_lt l r i x.0 (omega arith) (omega arith) in
    let q : x.0 < j = get_d_rising_lt l r x.0 j x.1 (omega arith) in
    let u : get_or l (i + 1) 0 ≤ get_or l x.0 0 = rising_get_d_le l r (i + 1) x.0 (omega arith) x.1 in
    let v : get_or l x.0 0 ≤ get_or l (j - 1) 0 = rising_get_d_le l r x.0 (j - 1) (omega arith) (omega arith) in
    mem_between (get_or l (i + 1) 0) (get_or l (j - 1) 0) l k t.0 (omega arith) (omega arith))
