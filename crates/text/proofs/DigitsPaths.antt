-- One law for each way that src/digits.rt goes. In order: how many digits; the digits of a number, put into a buffer so that they end at a place; where there
-- is room before it and where there is none. Assumes nothing.
use Prim.Native.Nat.{ℕ, zero, suc, ◌+◌, ◌-◌, ◌*◌, ◌^◌, ◌≤◌, ◌<◌, max}
use native.Mathlib.Nat.{pow-succ'}
use native.Mathlib.Omega.{arith}
use mathlib.Core.List.{List, ◌++◌}
use mathlib.Core.Path.{◌≡◌, sym, ◌∙◌}
use lib.ListN.{length, take, drop, take-append-drop}
use Rattle.std.specs.Fmt as fmt
use Rattle.keys.specs.Place.{put_at}
use Rattle.keys.proofs.PlaceLaws.{put_at_past}
use Rattle.text.specs.Decimal.{decimal, digit_limit}
use Rattle.text.specs.Put.{put_before, start_before}
use Rattle.text.proofs.DecimalLaws.{decimal_is, length_decimal_digit, length_decimal_below, length_decimal_from, length_decimal_most, ten_some}
use Rattle.text.proofs.PutLaws.{before_room, before_short, before_past}

-- ---- how many digits: one more than the power of ten that the number reaches, and zero has one

pub digits_counted : (n k : ℕ) → n < 2 ^ 64 → 10 ^ k ≤ max n 1 → max n 1 < 10 * 10 ^ k → (k + 1 ≡ length (decimal n)) × (k + 1 ≤ digit_limit)
digits_counted zero zero fit low high = (sym (length_decimal_digit 0 (omega arith)), omega arith)
digits_counted zero (suc k) fit low high = absurd (let p : 10 * 10 ^ k ≤ 1 = rw pow-succ' at low in omega (arith, ten_some k))
digits_counted (suc n) k fit low high =
    let p : suc n < 10 ^ suc k = rw pow-succ' (omega arith) in
    let below = length_decimal_below k (suc n) p in
    let above = length_decimal_from k (suc n) (omega arith) in
    let most = length_decimal_most (suc n) fit in
    (omega arith, omega arith)

-- ---- the digits of a number, as the library's call puts them: t has them from i on, and they end at `end`

pub digits_fit : (n end : ℕ) → n < 2 ^ 64 → length (decimal n) ≤ end → length (fmt.decimal n) ≤ end
digits_fit n end fit h = rw (decimal_is n fit) h

pub digits_put : (s t : List ℕ) (end n i : ℕ) → n < 2 ^ 64 → i + length (fmt.decimal n) ≡ end → drop i t ≡ fmt.decimal n ++ drop end s
    → take i t ≡ take i s → (i + length (decimal n) ≡ end) × (t ≡ put_at s i (decimal n))
digits_put s t end n i fit e rest front =
    let same = decimal_is n fit in
    let ends : i + length (decimal n) ≡ end = rw same at e in
    (ends, sym (take-append-drop i t) ∙ rw (front, rest, same, put_at_past, ends))

-- ---- where there is no room before the place `end`, and where there is

module _ (s : List ℕ) (end n : ℕ) where
  pub past_lem : length s < end → (end ≡ start_before s end (decimal n)) × (s ≡ put_before s end (decimal n))
  past_lem h = let (starts, puts) = before_past s end (decimal n) h in (sym starts, sym puts)

  module _ (inside : end ≤ length s) {count : ℕ} (many : count ≡ length (decimal n)) where
    pub short_lem : end < count → (end ≡ start_before s end (decimal n)) × (s ≡ put_before s end (decimal n))
    short_lem h = let (starts, puts) = before_short s end (decimal n) inside (omega arith) in (sym starts, sym puts)

    pub room_lem : count ≤ end → (i : ℕ) → i + length (decimal n) ≡ end → {t : List ℕ} → t ≡ put_at s i (decimal n)
        → (i ≡ start_before s end (decimal n)) × (t ≡ put_before s end (decimal n))
    room_lem h i e f =
        let place : i ≡ end - length (decimal n) = omega arith in
        let (starts, puts) = before_room s end (decimal n) inside (omega arith) in
        (place ∙ sym starts, f ∙ rw place (sym puts))
