-- Worked costs: stores of 0 to 11 keys with the deliveries that fill an empty one, each beside the round itself; and what the call returns. That E, the round
-- and the call give what is wanted is one law each, in proofs/Cases, by computing. Assumes nothing.
use Rattle.std.specs.Prelude.{ℕ, ◌+◌, List, [], ◌∷◌, length}
use Rattle.keys.specs.Store.{limit}
use Rattle.rule.specs.Round.{round_of}
use Rattle.opening.specs.Call.{Costed}
use Rattle.opening.specs.Cost.{opening_cost}
use Rattle.opening.specs.Call.{costed}

-- the keys of the right store, and the deliveries of the round
pub record Row : Type 0 where
  pub keys : List ℕ
  pub wanted : ℕ

abbrev pub row : List ℕ → ℕ → Row
row l n = record { keys = l; wanted = n }

-- what E tells of so many keys, and how many deliveries the round of an empty left store makes
abbrev pub cost_told : Row → ℕ
cost_told r = opening_cost (length r.keys)

abbrev pub cost_made : Row → ℕ
cost_made r = length (round_of [] r.keys).lines

abbrev pub table : List Row
table =
    row [] 0
    ∷ row (0 ∷ []) 1
    ∷ row (5 ∷ 6 ∷ []) 1
    ∷ row (1 ∷ 2 ∷ 16 ∷ []) 1
    ∷ row (1 ∷ 2 ∷ 4 ∷ 16 ∷ []) 3
    ∷ row (0 ∷ 1 ∷ 2 ∷ 3 ∷ 4 ∷ []) 3
    ∷ row (1 ∷ 2 ∷ 4 ∷ 8 ∷ 16 ∷ 32 ∷ []) 4
    ∷ row (1 ∷ 3 ∷ 4 ∷ 6 ∷ 8 ∷ 10 ∷ 12 ∷ []) 4
    ∷ row (0 ∷ 1 ∷ 2 ∷ 3 ∷ 4 ∷ 5 ∷ 6 ∷ 7 ∷ []) 6
    ∷ row (1 ∷ 2 ∷ 3 ∷ 5 ∷ 8 ∷ 13 ∷ 21 ∷ 34 ∷ 55 ∷ []) 6
    ∷ row (2 ∷ 3 ∷ 5 ∷ 7 ∷ 11 ∷ 13 ∷ 17 ∷ 19 ∷ 23 ∷ 29 ∷ []) 6
    ∷ row (10 ∷ 11 ∷ 12 ∷ 13 ∷ 14 ∷ 15 ∷ 16 ∷ 17 ∷ 18 ∷ 19 ∷ 20 ∷ []) 8
    ∷ []

-- what the call returns
pub record Called : Type 0 where
  pub gives : Costed
  pub wanted : Costed

abbrev pub called : ℕ → ℕ → ℕ → Called
called n x d = record { gives = costed n; wanted = record { number = x; deliveries = d } }

-- the numbers for planners; "17, for n above the limit"
abbrev pub calls : List Called
calls = called 0 0 0 ∷ called 100 0 74 ∷ called 1000 0 716 ∷ called limit 0 1451 ∷ called (limit + 1) 17 0 ∷ []
