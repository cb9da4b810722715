-- Quartering, by which a key is found (specs/Lent, `quarter_of`, `quartered`): a turn of the loop, that the fuel is enough, and that one of the keys is
-- found. What quartering finds among rising keys is in FindingLaws. Assumes nothing.
use mathlib.Core.Path.{◌≡◌, refl, sym, ◌∙◌}
use mathlib.Core.Bool.{Bool, true, false, cond}
use mathlib.Core.Logic.{⊎_elim}
use mathlib.Core.List.{List}
use Prim.Native.Nat.{ℕ, zero, suc, ◌+◌, ◌-◌, ◌*◌, ◌/◌, ◌≤◌, ◌<◌}
use native.Mathlib.Omega.{arith}
use borrow.Author.Tests.{lt-ltb, le-ltb}
use lib.Dec.{leb}
use lib.ListN.{get_or}
use Rattle.keys.specs.Lent.{halved, quarter_of, quartered}
use Rattle.keys.proofs.Tests.{lt_or_le}
use Rattle.keys.proofs.HalvingLaws.{settled, halved_lt}

-- the quarters before one of four are at most three
pub quarters_le : (width up : ℕ) → up ≤ 3 → width * up ≤ 3 * width
quarters_le width zero h = omega arith
quarters_le width (suc zero) h = omega arith
quarters_le width (suc (suc zero)) h = omega arith
quarters_le width (suc (suc (suc zero))) h = omega arith
quarters_le width (suc (suc (suc (suc up)))) h = absurd (omega arith)

module _ (keys : List ℕ) (key : ℕ) where
  pub quarter_of_le : (base width : ℕ) → quarter_of keys key base width ≤ 3
  quarter_of_le base width =
      omega (
        arith,
        one (leb (get_or keys (base + width) 0) key),
        one (leb (get_or keys (base + width + width) 0) key),
        one (leb (get_or keys (base + width + width + width) 0) key),
      )
    where
      one : (t : Bool) → cond {A = ℕ} t 1 0 ≤ 1
      one true = omega arith
      one false = omega arith

  -- where the quarter begins that is kept
  abbrev pub kept_from : ℕ → ℕ → ℕ
  kept_from base size = base + size / 4 * quarter_of keys key base (size / 4)

  -- it ends where the four end, or before
  pub kept_end : (base size : ℕ) → kept_from base size + (size - 3 * (size / 4)) ≤ base + size
  kept_end base size = omega (arith, quarters_le (size / 4) (quarter_of keys key base (size / 4)) (quarter_of_le base (size / 4)))

  -- fewer than four keys are halved
  pub quartered_few : (n base size : ℕ) → size < 4 → quartered n keys key base size ≡ halved size keys key base size
  quartered_few zero base size h = refl
  quartered_few (suc n) base size h = rw (lt-ltb size 4 h)

  pub quartered_many : (n base size : ℕ) → 4 ≤ size
      → quartered (suc n) keys key base size ≡ quartered n keys key (kept_from base size) (size - 3 * (size / 4))
  quartered_many n base size h = rw (le-ltb size 4 h)

  -- fuel as large as the size is enough
  pub quartered_suc : (n base size : ℕ) → size ≤ n → quartered (suc n) keys key base size ≡ quartered n keys key base size
  quartered_suc zero base size h = quartered_few 1 base size (omega arith)
  quartered_suc (suc n) base size h = ⊎_elim {C = quartered (suc (suc n)) keys key base size ≡ quartered (suc n) keys key base size}
      (λ (p : size < 4). quartered_few (suc (suc n)) base size p ∙ sym (quartered_few (suc n) base size p))
      (λ (p : 4 ≤ size).
      quartered_many (suc n) base size p
      ∙ quartered_suc n (kept_from base size) (size - 3 * (size / 4)) (omega arith)
      ∙ sym (quartered_many n base size p))
      (lt_or_le size 4)

  pub quartered_fuel : (n base size : ℕ) → size ≤ n → quartered n keys key base size ≡ quartered size keys key base size
  quartered_fuel n base size = settled (λ (m : ℕ). quartered m keys key base size) size (λ m. quartered_suc m base size) n

  -- a turn of the loop: the quarter that is kept
  pub quartered_turn : (base size : ℕ) → 3 < size
      → quartered size keys key base size ≡ quartered (size - 3 * (size / 4)) keys key (kept_from base size) (size - 3 * (size / 4))
  quartered_turn base zero h = absurd (omega arith)
  quartered_turn base (suc n) h =
      quartered_many n base (suc n) (omega arith)
      ∙ quartered_fuel n (kept_from base (suc n)) (suc n - 3 * (suc n / 4)) (omega arith)

-- what quartering finds is one of the keys
pub quartered_lt : (n : ℕ) (keys : List ℕ) (key base size : ℕ) → 0 < size → quartered n keys key base size < base + size
quartered_lt zero keys key base size h = halved_lt size keys key base size h
quartered_lt (suc n) keys key base size h = ⊎_elim {C = quartered (suc n) keys key base size < base + size}
    (λ (p : size < 4). rw (quartered_few keys key (suc n) base size p) (halved_lt size keys key base size h))
    (λ (p : 4 ≤ size).
    let again : quartered n keys key (kept_from keys key base size) (size - 3 * (size / 4)) < kept_from keys key base size + (size - 3 * (size / 4)) =
    quartered_lt n keys key (kept_from keys key base size) (size - 3 * (size / 4)) (omega arith) in
    rw (quartered_many keys key n base size p) (omega (arith, kept_end keys key base size)))
    (lt_or_le size 4)
