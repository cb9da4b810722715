-- The ways that `deliveries` goes, one law each: what it returns, and that a sum fits 64 bits, since it is at most n. Assumes nothing.
use Prim.Native.Nat.{ℕ, ◌+◌, ◌-◌, ◌≤◌, ◌<◌}
use mathlib.Core.Path.{◌≡◌, sym, ap, ap₂, ◌∙◌, subst}
use native.Mathlib.Omega.{arith}
use mir.Syntax.{w64}
use mir.Val.{Fits}
use Rattle.opening.specs.Cost.{cut, opening_cost}
use Rattle.opening.proofs.CostLaws.{opening_cost_none, opening_cost_few, opening_cost_one, opening_cost_two, opening_cost_le}

pub none_told : (n : ℕ) → n ≡ 0 → 0 ≡ opening_cost n
none_told n e = sym (ap opening_cost e ∙ opening_cost_none)

pub few_told : (n : ℕ) → 1 ≤ n → n ≤ 3 → 1 ≡ opening_cost n
few_told n g h = sym (opening_cost_few n g h)

pub one_told : (n a : ℕ) → 3 < n → n ≤ 5 → a ≡ opening_cost (n - 2) → 2 + a ≡ opening_cost n
one_told n a g h e = ap (λ (x : ℕ). 2 + x) e ∙ sym (opening_cost_one n g h)

pub two_told : (n a b : ℕ) → 5 < n → a ≡ opening_cost (cut n + 1) → b ≡ opening_cost (n - 3 - cut n) → 2 + a + b ≡ opening_cost n
two_told n a b g d e = ap₂ (λ (x y : ℕ). 2 + x + y) d e ∙ sym (opening_cost_two n g)

-- two more than for at least two keys fewer: of one claim, and of the first of two
part_fits : (n k a : ℕ) → a ≡ opening_cost k → Fits w64 n → k + 2 ≤ n → Fits w64 (2 + a)
part_fits n k a e f h = record { fits = omega (arith, opening_cost_le k, f.fits) }

pub one_fits : (n a : ℕ) → 3 < n → a ≡ opening_cost (n - 2) → Fits w64 n → Fits w64 (2 + a)
one_fits n a g e f = part_fits n (n - 2) a e f (omega arith)

pub first_fits : (n a : ℕ) → 5 < n → a ≡ opening_cost (cut n + 1) → Fits w64 n → Fits w64 (2 + a)
first_fits n a g e f = part_fits n (cut n + 1) a e f (omega arith)

pub whole_fits : (n a b : ℕ) → 5 < n → a ≡ opening_cost (cut n + 1) → b ≡ opening_cost (n - 3 - cut n) → Fits w64 n → Fits w64 (2 + a + b)
whole_fits n a b g d e f = subst (Fits w64) (sym (two_told n a b g d e)) (record { fits = omega (arith, opening_cost_le n, f.fits) })
