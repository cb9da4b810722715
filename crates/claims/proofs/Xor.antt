-- The XOR of all numbers of a list: `xor_all` of Claim. In order: `bit_xor` is associative, by its lowest bit and then half of each number;
-- the sum of a join, of one key, of two and of three; a sum of keys of w bits has w bits.
-- Not here: `xor_comm`, `xor_self`, `xor_zero_l`, `xor_zero_r`, `xor_lt` (lib.Bits). Assumes nothing.
use Prim.Native.Nat.{ℕ, zero, suc, ◌≤◌, ◌<◌, ◌/◌, ◌%◌, ◌^◌}
use mathlib.Core.List.{List, [], ◌∷◌, ◌++◌, Memᴰ}
use mathlib.Core.Path.{◌≡◌, refl, sym, ap, ◌∙◌}
use native.Mathlib.Omega.{arith}
use lib.Bits.{bit_xor, xor_comm, xor_self, xor_zero_l, xor_zero_r, xor_lt, xor_shr, xor_mod}
use lib.Pow.{pow_pos}
use Rattle.claims.specs.Claim.{xor_all}

-- ---- associativity

data Bit : ℕ → Type 0 where
  off : Bit 0
  on : Bit 1

bit : (n : ℕ) → n < 2 → Bit n
bit zero h = off
bit (suc zero) h = on
bit (suc (suc n)) h = absurd (omega arith)

xor_assoc_bit : {x y z : ℕ} → Bit x → Bit y → Bit z → bit_xor (bit_xor x y) z ≡ bit_xor x (bit_xor y z)
xor_assoc_bit off off off = refl
xor_assoc_bit off off on = refl
xor_assoc_bit off on off = refl
xor_assoc_bit off on on = refl
xor_assoc_bit on off off = refl
xor_assoc_bit on off on = refl
xor_assoc_bit on on off = refl
xor_assoc_bit on on on = refl

-- for a up to n
xor_assoc_to : (n a b c : ℕ) → a ≤ n → bit_xor (bit_xor a b) c ≡ bit_xor a (bit_xor b c)
xor_assoc_to zero a b c h =
    let e : a ≡ 0 = omega arith in
    rw (e, xor_zero_l b, xor_zero_l (bit_xor b c))
xor_assoc_to (suc n) a b c h =
    let below : bit_xor (bit_xor (a / 2) (b / 2)) (c / 2) ≡ bit_xor (a / 2) (bit_xor (b / 2) (c / 2)) = xor_assoc_to n (a / 2) (b / 2) (c / 2) (omega arith) in
    let high : bit_xor (bit_xor a b) c / 2 ≡ bit_xor a (bit_xor b c) / 2 =
    rw (xor_shr (bit_xor a b) c 1, xor_shr a b 1, xor_shr a (bit_xor b c) 1, xor_shr b c 1) below in
    let low : bit_xor (bit_xor a b) c % 2 ≡ bit_xor a (bit_xor b c) % 2
    = rw (xor_mod (bit_xor a b) c 1, xor_mod a b 1, xor_mod a (bit_xor b c) 1, xor_mod b c 1)
    (xor_assoc_bit (bit (a % 2) (omega arith)) (bit (b % 2) (omega arith)) (bit (c % 2) (omega arith))) in
    omega arith

pub xor_assoc : (a b c : ℕ) → bit_xor (bit_xor a b) c ≡ bit_xor a (bit_xor b c)
xor_assoc a b c = xor_assoc_to a a b c (omega arith)

-- ---- sums

pub xor_all_append : (a b : List ℕ) → xor_all (a ++ b) ≡ bit_xor (xor_all a) (xor_all b)
xor_all_append [] b = sym (xor_zero_l (xor_all b))
xor_all_append (k ∷ ks) b = ap (bit_xor k) (xor_all_append ks b) ∙ sym (xor_assoc k (xor_all ks) (xor_all b))

pub xor_all_one : (k : ℕ) → xor_all (k ∷ []) ≡ k
xor_all_one k = xor_zero_r k

pub xor_all_two : (j k : ℕ) → xor_all (j ∷ k ∷ []) ≡ bit_xor j k
xor_all_two j k = ap (bit_xor j) (xor_zero_r k)

-- a key twice is no key
pub xor_twice : (a b : ℕ) → bit_xor (bit_xor a b) b ≡ a
xor_twice a b = xor_assoc a b b ∙ (ap (bit_xor a) (xor_self b) ∙ xor_zero_r a)

-- the sum of three keys without the first and the last is the one between, ..
pub xor_all_three : (j k m : ℕ) → bit_xor (bit_xor (xor_all (j ∷ k ∷ m ∷ [])) j) m ≡ k
xor_all_three j k m =
    let e : xor_all (j ∷ k ∷ m ∷ []) ≡ bit_xor (bit_xor k m) j = ap (bit_xor j) (xor_all_two k m) ∙ xor_comm j (bit_xor k m) in
    ap (λ (x : ℕ). bit_xor (bit_xor x j) m) e ∙ (ap (λ (x : ℕ). bit_xor x m) (xor_twice (bit_xor k m) j) ∙ xor_twice k m)

-- .. and with that key between the two, the sum is what it was
pub xor_all_told : (s j m : ℕ) → xor_all (j ∷ bit_xor (bit_xor s j) m ∷ m ∷ []) ≡ s
xor_all_told s j m =
    ap (bit_xor j) (xor_all_two (bit_xor (bit_xor s j) m) m ∙ xor_twice (bit_xor s j) m) ∙ (xor_comm j (bit_xor s j) ∙ xor_twice s j)

-- one more key at the end: what a loop that goes up adds
pub xor_all_snoc : (l : List ℕ) (k : ℕ) → xor_all (l ++ (k ∷ [])) ≡ bit_xor (xor_all l) k
xor_all_snoc l k = xor_all_append l (k ∷ []) ∙ ap (bit_xor (xor_all l)) (xor_all_one k)

pub xor_all_lt : (w : ℕ) (l : List ℕ) → ((k : ℕ) → Memᴰ k l → k < 2 ^ w) → xor_all l < 2 ^ w
xor_all_lt w [] f = pow_pos w
xor_all_lt w (k ∷ ks) f = xor_lt w k (xor_all ks) (f k (Memᴰ.head refl)) (xor_all_lt w ks (λ j m. f j (Memᴰ.tail m)))
