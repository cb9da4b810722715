-- What `opening_cost` tells (specs/Call): the cost up to the limit, and 17 beyond it, each by one law for the code; then field by field. Assumes nothing.
use Prim.Native.Nat.{ℕ, ◌≤◌, ◌<◌}
use mathlib.Core.List.{[]}
use mathlib.Core.Path.{◌≡◌, refl, sym, ◌∙◌}
use native.Mathlib.Omega.{arith}
use borrow.Author.Tests.{leb-true, le-leb, lt-leb}
use lib.Dec.{lit<}
use Rattle.keys.specs.Store.{limit}
use Rattle.claims.specs.Question.{first_no, question17}
use Rattle.claims.proofs.QuestionLaws.{first_no_zero, settle_number}
use Rattle.opening.specs.Call.{Costed}
use Rattle.opening.specs.Cost.{opening_cost}
use Rattle.opening.specs.Call.{cost_questions, costed}
use Rattle.opening.proofs.CostLaws.{opening_cost_le}

pub costed_yes : (n d : ℕ) → n ≤ limit → d ≡ opening_cost n → record { number = 0; deliveries = d } ≡ costed n
unfolding costed
costed_yes n d h e = rw (le-leb n limit h, e)

pub costed_no : (n : ℕ) → limit < n → record { number = 17; deliveries = 0 } ≡ costed n
unfolding costed
costed_no n h = rw (lt-leb n limit h)

-- ---- field by field

pub costed_number : (n : ℕ) → (costed n).number ≡ first_no (cost_questions n)
unfolding costed
costed_number n =
    settle_number (λ (c : Costed). c.number) (first_no (cost_questions n)) (record { number = 0; deliveries = opening_cost n })
    (λ x. record { number = x; deliveries = 0 }) refl (λ x. refl)

module _ (n : ℕ) (yes : (costed n).number ≡ 0) where
  none : first_no (cost_questions n) ≡ 0
  none = sym (costed_number n) ∙ yes

  pub costed_deliveries : (costed n).deliveries ≡ opening_cost n
  unfolding costed
  costed_deliveries = rw none

  -- no more than a store has keys
  pub costed_few : (costed n).deliveries ≤ limit
  costed_few = omega (arith, costed_deliveries, opening_cost_le n, leb-true n limit (first_no_zero (question17 n) [] (lit< tt) none).0)
