-- A store in order: `in_order`, `keys_of`, `store_of` and `empty_store` of Store. In order: zeros; equal lists and how many sums there are; the keys and the
-- sums of the store of some keys; what "in order" says of a store whose places are as many as the limit; the store of rising keys is in order; the
-- empty store.
-- So a store in order and its rising keys, at most the limit of them, are one and the same. Assumes nothing.
use Prim.Native.Nat.{ℕ, zero, suc, ◌-◌, ◌≤◌, ◌<◌}
use mathlib.Core.Bool.{Bool, true, false, ◌&&◌, and-false, false≢true}
use mathlib.Core.List.{List, [], ◌∷◌, ◌++◌}
use mathlib.Core.Path.{◌≡◌, refl, sym, ap, ap₂, ◌∙◌}
use native.Mathlib.Omega.{arith}
use borrow.Author.Tests.{leb-true, le-leb, eqb-true, eq-eqb}
use lib.Bits.{bit_xor}
use lib.Dec.{leb, eqb}
use lib.ListN.{length, take, drop, length-append, length-drop, length-replicate, take-append-drop}
use lib.Seq.{length-take-le, take-append_seam, drop-append_seam, take_at, drop_at}
use Rattle.keys.specs.declared.store.Store.{Store}
use Rattle.keys.specs.Store.{limit, Sized, zeros, keys_of, running_from, running, store_of, empty_store, rising, all_zero, same_keys, sums_of, in_order}
use Rattle.keys.proofs.Tests.{and_left, and_right, and_both}
use Rattle.keys.proofs.Rising.{Rising, rising_true, true_rising}

-- ---- zeros

pub length_zeros : (n : ℕ) → length (zeros n) ≡ n
unfolding zeros
length_zeros n = length-replicate n 0

pub all_zero_zeros : (n : ℕ) → all_zero (zeros n) ≡ true
unfolding zeros
all_zero_zeros zero = refl
all_zero_zeros (suc n) = all_zero_zeros n

pub zeros_all_zero : (l : List ℕ) → all_zero l ≡ true → l ≡ zeros (length l)
unfolding zeros
zeros_all_zero [] h = refl
zeros_all_zero (x ∷ xs) h =
    let e : x ≡ 0 = eqb-true x 0 (and_left (eqb x 0) (all_zero xs) h) in
    let p : xs ≡ zeros (length xs) = zeros_all_zero xs (and_right (eqb x 0) (all_zero xs) h) in
    cc

-- ---- equal lists, and how many sums there are

pub same_keys_equal : (a b : List ℕ) → same_keys a b ≡ true → a ≡ b
same_keys_equal [] [] h = refl
same_keys_equal [] (k ∷ ks) h = absurd (false≢true h)
same_keys_equal (j ∷ js) [] h = absurd (false≢true h)
same_keys_equal (j ∷ js) (k ∷ ks) h =
    let p : j ≡ k = eqb-true j k (and_left (eqb j k) (same_keys js ks) h) in
    let q : js ≡ ks = same_keys_equal js ks (and_right (eqb j k) (same_keys js ks) h) in
    cc

pub same_keys_refl : (a : List ℕ) → same_keys a a ≡ true
same_keys_refl [] = refl
same_keys_refl (k ∷ ks) = and_both (eqb k k) (same_keys ks ks) (eq-eqb k k refl) (same_keys_refl ks)

pub same_keys_fewer : (a b : List ℕ) → length a < length b → same_keys a b ≡ false
same_keys_fewer [] [] h = absurd (omega arith)
same_keys_fewer [] (k ∷ ks) h = refl
same_keys_fewer (j ∷ js) [] h = absurd (omega arith)
same_keys_fewer (j ∷ js) (k ∷ ks) h = rw (same_keys_fewer js ks (omega arith), and-false)

pub length_running : (x : ℕ) (l : List ℕ) → length (running_from x l) ≡ length l
length_running x [] = refl
length_running x (k ∷ ks) = ap suc (length_running (bit_xor x k) ks)

-- ---- the store of some keys

pub count_store_of : (l : List ℕ) → (store_of l).count ≡ length l
unfolding store_of
count_store_of l = refl

pub keys_store_of : (l : List ℕ) → (store_of l).keys ≡ l ++ zeros (limit - length l)
unfolding store_of
keys_store_of l = refl

pub sums_store_of : (l : List ℕ) → (store_of l).sums ≡ running l ++ zeros (limit - length l)
unfolding store_of
sums_store_of l = refl

pub keys_of_store_of : (l : List ℕ) → keys_of (store_of l) ≡ l
unfolding store_of
keys_of_store_of l = take-append_seam l (zeros (limit - length l))

pub length_keys_store_of : (l : List ℕ) → length l ≤ limit → length (store_of l).keys ≡ limit
unfolding store_of
length_keys_store_of l h = omega (arith, length-append l (zeros (limit - length l)), length_zeros (limit - length l))

pub length_sums_store_of : (l : List ℕ) → length l ≤ limit → length (store_of l).sums ≡ limit
unfolding store_of
length_sums_store_of l h =
    omega (arith, length-append (running l) (zeros (limit - length l)), length_running 0 l, length_zeros (limit - length l))

pub sized_store_of : (l : List ℕ) → length l ≤ limit → Sized (store_of l)
sized_store_of l h = record { keys = length_keys_store_of l h; sums = length_sums_store_of l h }

-- ---- what "in order" says

-- the parts of the test
module _ (s : Store) (yes : in_order s ≡ true) where
  abbrev blank : Bool
  blank = all_zero (drop s.count s.keys)

  abbrev summed : Bool
  summed = sums_of (keys_of s) s.sums

  rest : (rising (keys_of s) && (blank && summed)) ≡ true
  unfolding in_order
  rest = and_right (leb s.count limit) (rising (keys_of s) && (blank && summed)) yes

  pub in_order_count : s.count ≤ limit
  unfolding in_order
  in_order_count = leb-true s.count limit (and_left (leb s.count limit) (rising (keys_of s) && (blank && summed)) yes)

  pub in_order_rising : Rising (keys_of s)
  in_order_rising = rising_true (keys_of s) (and_left (rising (keys_of s)) (blank && summed) rest)

  pub in_order_zeros : blank ≡ true
  in_order_zeros = and_left blank summed (and_right (rising (keys_of s)) (blank && summed) rest)

  pub in_order_sums : summed ≡ true
  in_order_sums = and_right blank summed (and_right (rising (keys_of s)) (blank && summed) rest)

-- a run that ends in zeros, by what stands before them
ends_in_zeros : (run l : List ℕ) → length run ≡ limit → take (length l) run ≡ l → all_zero (drop (length l) run) ≡ true → run ≡ l ++ zeros (limit - length l)
ends_in_zeros run l long front blank =
    let d : length (drop (length l) run) ≡ limit - length l = length-drop (length l) run ∙ (omega arith) in
    let z : drop (length l) run ≡ zeros (limit - length l) = zeros_all_zero (drop (length l) run) blank ∙ ap zeros d in
    sym (take-append-drop (length l) run) ∙ ap₂ (λ (a b : List ℕ). a ++ b) front z

pub length_keys_of : (s : Store) → length s.keys ≡ limit → in_order s ≡ true → length (keys_of s) ≡ s.count
length_keys_of s e h = let p : s.count ≤ limit = in_order_count s h in length-take-le s.count s.keys (omega arith)

pub store_of_keys_of : (s : Store) → Sized s → in_order s ≡ true → s ≡ store_of (keys_of s)
unfolding store_of
store_of_keys_of s sized h =
    let l : List ℕ = keys_of s in
    let n : s.count ≡ length l = sym (length_keys_of s sized.keys h) in
    let m : length (running l) ≡ length l = length_running 0 l in
    let sums : take (length (running l)) s.sums ≡ running l =
    ap (λ (k : ℕ). take k s.sums) m
    ∙ same_keys_equal (take (length l) s.sums) (running l)
    (and_left (same_keys (take (length l) s.sums) (running l)) (all_zero (drop (length l) s.sums)) (in_order_sums s h)) in
    let past : all_zero (drop (length (running l)) s.sums) ≡ true =
    ap (λ (k : ℕ). all_zero (drop k s.sums)) m
    ∙ and_right (same_keys (take (length l) s.sums) (running l)) (all_zero (drop (length l) s.sums)) (in_order_sums s h) in
    let keys_are : s.keys ≡ l ++ zeros (limit - length l) =
    ends_in_zeros s.keys l sized.keys (ap (λ (k : ℕ). take k s.keys) (sym n)) (ap (λ (k : ℕ). all_zero (drop k s.keys)) (sym n) ∙ in_order_zeros s h) in
    let sums_are : s.sums ≡ running l ++ zeros (limit - length l) =
    ends_in_zeros s.sums (running l) sized.sums sums past ∙ ap (λ (k : ℕ). running l ++ zeros (limit - k)) m in
    λ i. record { keys = keys_are i; sums = sums_are i; count = n i }

-- ---- the store of rising keys is in order

pub in_order_store_of : (l : List ℕ) → Rising l → length l ≤ limit → in_order (store_of l) ≡ true
unfolding in_order store_of
in_order_store_of l r h =
    let z : List ℕ = zeros (limit - length l) in
    let n : length (running l) ≡ length l = length_running 0 l in
    rw (
      take-append_seam l z,
      drop-append_seam l z,
      take_at (running l) z (length l) n,
      drop_at (running l) z (length l) n,
      le-leb (length l) limit h,
      true_rising l r,
      all_zero_zeros (limit - length l),
      same_keys_refl (running l),
    )

-- ---- the empty store

pub empty_store_store_of : empty_store ≡ store_of []
unfolding empty_store store_of
empty_store_store_of = refl

pub keys_of_empty_store : keys_of empty_store ≡ []
keys_of_empty_store = ap keys_of empty_store_store_of ∙ keys_of_store_of []

pub in_order_empty_store : in_order empty_store ≡ true
in_order_empty_store = ap in_order empty_store_store_of ∙ in_order_store_of [] tt (omega arith)
