-- What `opening_cost` returns, for any number of keys (document 02, slip 5). Assumes nothing.
use Rattle.std.specs.Prelude.{ℕ, List, [], ◌∷◌, Result}
use Rattle.claims.specs.declared.refusal.Refusal.{Refusal}
use Rattle.claims.specs.Refusal.{number_told, value_told}
use Rattle.claims.specs.Question.{Question, first_no, settle, question17}
use Rattle.opening.specs.Cost.{opening_cost}

-- 17 is "the only question of this call"
abbrev pub cost_questions : ℕ → List Question
cost_questions n = question17 n ∷ []

-- the number of the first question answered no, or 0, and the deliveries, none on a refusal
pub record Costed : Type 0 where
  pub number : ℕ
  pub deliveries : ℕ

-- that, by what the call returns
abbrev pub costed_by : Result ℕ Refusal → Costed
costed_by r = record { number = number_told r; deliveries = value_told 0 r }

unfoldable pub costed : ℕ → Costed
costed n =
    settle (first_no (cost_questions n))
    (record { number = 0; deliveries = opening_cost n })
    (λ x. record { number = x; deliveries = 0 })
