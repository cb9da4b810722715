-- Laws of numbers as text: one digit, one digit more, the text of the library's calls, how many digits there are and what they are, and that the text is
-- the number's. Assumes nothing.
use Prim.Native.Nat.{ℕ, zero, suc, ◌+◌, ◌-◌, ◌*◌, ◌/◌, ◌%◌, ◌^◌, ◌≤◌, ◌<◌}
use native.Mathlib.Nat.{pow-succ', mul_left_comm}
use native.Mathlib.Numerals.{add-one}
use native.Mathlib.Omega.{arith}
use mathlib.Core.List.{List, [], ◌∷◌, ◌++◌}
use mathlib.Core.List.Memᴰ
use mathlib.Core.List.{Memᴰ}
use mathlib.Core.Logic.{⊎_elim}
use mathlib.Core.Path.{◌≡◌, refl, ap, sym, ◌∙◌, subst}
use borrow.Author.Tests.{lt-ltb, le-ltb}
use lib.ListN.{length, take, length-append}
use lib.Seq.{take-append_seam}
use Rattle.keys.proofs.Tests.{lt_or_le}
use Rattle.std.specs.Fmt as fmt
use Rattle.std.proofs.lemmas.Fmt.{decimal_by_steps}
use Rattle.text.specs.Decimal.{digit, decimal_in, decimal, digit_limit, value}

-- ---- how often over makes no difference

decimal_in_small : (f n : ℕ) → n < 10 → decimal_in f n ≡ digit n ∷ []
unfolding decimal_in
decimal_in_small zero n h = refl
decimal_in_small (suc f) n h = rw (lt-ltb n 10 h)

decimal_in_large : (f n : ℕ) → 10 ≤ n → decimal_in (suc f) n ≡ decimal_in f (n / 10) ++ (digit (n % 10) ∷ [])
unfolding decimal_in
decimal_in_large f n h = rw (le-ltb n 10 h)

decimal_in_turns : (f g n : ℕ) → n ≤ f → n ≤ g → decimal_in f n ≡ decimal_in g n
decimal_in_turns zero g n p q = decimal_in_small zero n (omega arith) ∙ sym (decimal_in_small g n (omega arith))
decimal_in_turns (suc f) zero n p q = decimal_in_small (suc f) n (omega arith) ∙ sym (decimal_in_small zero n (omega arith))
decimal_in_turns (suc f) (suc g) n p q =
    ⊎_elim
    {C = decimal_in (suc f) n ≡ decimal_in (suc g) n}
    (λ (h : n < 10). decimal_in_small (suc f) n h ∙ sym (decimal_in_small (suc g) n h))
    (λ (h : 10 ≤ n).
    decimal_in_large f n h
    ∙ (ap (λ (l : List ℕ). l ++ (digit (n % 10) ∷ [])) (decimal_in_turns f g (n / 10) (omega arith) (omega arith)) ∙ sym (decimal_in_large g n h)))
    (lt_or_le n 10)

-- ---- one digit, and one more

pub decimal_digit : (n : ℕ) → n < 10 → decimal n ≡ digit n ∷ []
unfolding decimal
decimal_digit n h = decimal_in_small n n h

pub decimal_step : (n : ℕ) → 10 ≤ n → decimal n ≡ decimal (n / 10) ++ (digit (n % 10) ∷ [])
unfolding decimal
decimal_step zero h = absurd (let z : ⊥ = omega arith in z)
decimal_step (suc m) h =
    decimal_in_large m (suc m) h
    ∙ ap (λ (l : List ℕ). l ++ (digit (suc m % 10) ∷ [])) (decimal_in_turns m (suc m / 10) (suc m / 10) (omega arith) (omega arith))

-- so it is the text that the library's calls write
pub decimal_is : (n : ℕ) → n < 2 ^ 64 → fmt.decimal n ≡ decimal n
decimal_is n h =
    decimal_by_steps (λ m ds. ds ≡ decimal m) (λ m h. sym (decimal_digit m h))
    (λ m ds h e. ap (λ (l : List ℕ). l ++ (digit (m % 10) ∷ [])) e ∙ sym (decimal_step m h)) n h

-- ---- how many digits

pub length_decimal_digit : (n : ℕ) → n < 10 → length (decimal n) ≡ 1
length_decimal_digit n h = rw (decimal_digit n h)

pub length_decimal_step : (n : ℕ) → 10 ≤ n → length (decimal n) ≡ length (decimal (n / 10)) + 1
length_decimal_step n h = rw (decimal_step n h, length-append)

pub length_decimal_some : (n : ℕ) → 1 ≤ length (decimal n)
length_decimal_some n =
    ⊎_elim
    {C = 1 ≤ length (decimal n)}
    (λ (h : n < 10). omega (arith, length_decimal_digit n h))
    (λ (h : 10 ≤ n). omega (arith, length_decimal_step n h))
    (lt_or_le n 10)

pub length_decimal_below : (k n : ℕ) → n < 10 ^ suc k → length (decimal n) ≤ suc k
length_decimal_below zero n h = omega (arith, length_decimal_digit n h)
length_decimal_below (suc k) n h =
    ⊎_elim
    {C = length (decimal n) ≤ suc (suc k)}
    (λ (p : n < 10). omega (arith, length_decimal_digit n p))
    (λ (p : 10 ≤ n).
    let m : n < 10 * 10 ^ suc k = rw pow-succ' at h in
    let r : length (decimal (n / 10)) ≤ suc k = length_decimal_below k (n / 10) (omega arith) in
    omega (arith, length_decimal_step n p))
    (lt_or_le n 10)

pub ten_some : (k : ℕ) → 1 ≤ 10 ^ k
ten_some zero = omega arith
ten_some (suc k) = rw pow-succ' (omega (arith, ten_some k))

pub length_decimal_from : (k n : ℕ) → 10 ^ k ≤ n → suc k ≤ length (decimal n)
length_decimal_from zero n h = length_decimal_some n
length_decimal_from (suc k) n h =
    let m : 10 * 10 ^ k ≤ n = rw pow-succ' at h in
    let some : 10 ≤ n = omega (arith, ten_some k) in
    let r : suc k ≤ length (decimal (n / 10)) = length_decimal_from k (n / 10) (omega arith) in
    omega (arith, length_decimal_step n some)

-- a 64-bit number has at most 20
pub length_decimal_most : (n : ℕ) → n < 2 ^ 64 → length (decimal n) ≤ digit_limit
length_decimal_most n h = length_decimal_below 19 n (omega arith)

-- ---- what they are: characters from `0` to `9`, the last one not missing

abbrev pub IsDigit : ℕ → Type 0
IsDigit c = (digit 0 ≤ c) × (c ≤ digit 9)

digit_is : (d c : ℕ) → d < 10 → Memᴰ c (digit d ∷ []) → IsDigit c
digit_is d c h (Memᴰ.head e) = (omega arith, omega arith)
digit_is d c h (Memᴰ.tail i) = absurd (Memᴰ.not-nil i)

decimal_in_digits : (f n c : ℕ) → n ≤ f → Memᴰ c (decimal_in f n) → IsDigit c
decimal_in_digits zero n c p i = digit_is n c (omega arith) (subst (Memᴰ c) (decimal_in_small zero n (omega arith)) i)
decimal_in_digits (suc f) n c p i =
    ⊎_elim
    {C = IsDigit c}
    (λ (h : n < 10). digit_is n c h (subst (Memᴰ c) (decimal_in_small (suc f) n h) i))
    (λ (h : 10 ≤ n).
    ⊎_elim
    {C = IsDigit c}
    (decimal_in_digits f (n / 10) c (omega arith))
    (digit_is (n % 10) c (omega arith))
    (Memᴰ.append_cases (decimal_in f (n / 10)) (subst (Memᴰ c) (decimal_in_large f n h) i)))
    (lt_or_le n 10)

pub decimal_digits : (n c : ℕ) → Memᴰ c (decimal n) → IsDigit c
unfolding decimal
decimal_digits n c i = decimal_in_digits n n c (omega arith) i

-- the last one
pub decimal_last : (n : ℕ) → decimal n ≡ take (length (decimal n) - 1) (decimal n) ++ (digit (n % 10) ∷ [])
decimal_last n =
    ⊎_elim
    {C = decimal n ≡ take (length (decimal n) - 1) (decimal n) ++ (digit (n % 10) ∷ [])}
    (λ (h : n < 10). let e : n % 10 ≡ n = omega arith in rw (e, decimal_digit n h))
    (λ (h : 10 ≤ n).
    let front = decimal (n / 10) in
    let k : length (decimal n) - 1 ≡ length front = omega (arith, length_decimal_step n h) in
    rw (k, decimal_step n h, take-append_seam front (digit (n % 10) ∷ [])))
    (lt_or_le n 10)

-- ---- the text is the number's

value_snoc : (ds : List ℕ) (d : ℕ) → value (ds ++ (d ∷ [])) ≡ value ds * 10 + (d - 48)
unfolding value
value_snoc [] d = omega arith
value_snoc (a ∷ ds) d =
    let e : (a - 48) * 10 ^ length (ds ++ (d ∷ [])) ≡ 10 * ((a - 48) * 10 ^ length ds) = rw (length-append, add-one, pow-succ', mul_left_comm (a - 48) 10) in
    let r : value (ds ++ (d ∷ [])) ≡ value ds * 10 + (d - 48) = value_snoc ds d in
    omega arith

value_digit : (n : ℕ) → value (digit n ∷ []) ≡ n
unfolding value
value_digit n = omega arith

value_decimal_in : (f n : ℕ) → n ≤ f → value (decimal_in f n) ≡ n
value_decimal_in zero n p = rw (decimal_in_small zero n (omega arith)) (value_digit n)
value_decimal_in (suc f) n p =
    ⊎_elim
    {C = value (decimal_in (suc f) n) ≡ n}
    (λ (h : n < 10). rw (decimal_in_small (suc f) n h) (value_digit n))
    (λ (h : 10 ≤ n).
    let r : value (decimal_in f (n / 10)) ≡ n / 10 = value_decimal_in f (n / 10) (omega arith) in
    rw (decimal_in_large f n h, value_snoc, r) (omega arith))
    (lt_or_le n 10)

-- so two numbers with one text are one number
pub value_decimal : (n : ℕ) → value (decimal n) ≡ n
unfolding decimal
value_decimal n = value_decimal_in n n (omega arith)
