-- What a new kiosk costs (document 02, slip 5): "We plan openings by airtime. Give for each n from 0 to the store limit the number of deliveries in a round
-- between an empty left store and a right store of n keys." The four equations of the request are laws of proofs/CostLaws; that a round makes so many deliveries, whichever keys they are, is
-- a theorem of `meeting`, `met_opening`. Assumes nothing.
use Rattle.std.specs.Prelude.{ℕ, zero, suc, ◌+◌, ◌-◌, ◌/◌, cond, List, [], ◌∷◌, ◌++◌, eqb, leb, length, get_or}

-- "with z = (n − 2) div 2"
abbrev pub cut : ℕ → ℕ
cut n = (n - 2) / 2

-- E(n), where e tells E of the numbers below n: "Let E(1), E(2), E(3) be 1. For n of 4 or 5, E(n) is 2 + E(n − 2). For greater n it is
-- 2 + E(z + 1) + E(n − 3 − z) ..", and "none for n = 0".
abbrev pub cost_by : (ℕ → ℕ) → ℕ → ℕ
cost_by e n =
    cond (eqb n 0) 0
    (cond (leb n 3) 1
    (cond (leb n 5) (2 + e (n - 2))
    (2 + e (cut n + 1) + e (n - 3 - cut n))))

-- The numbers come from a table that is filled from below, so that each is worked out once: what a table tells at a place, ..
abbrev pub told : List ℕ → ℕ → ℕ
told t i = get_or t i 0

-- .. the table with the next number, ..
abbrev pub with_next : List ℕ → List ℕ
with_next t = t ++ (cost_by (told t) (length t) ∷ [])

-- .. and the table of E(0) to E(n − 1).
abbrev pub costs_below : ℕ → List ℕ
costs_below zero = []
costs_below (suc n) = with_next (costs_below n)

-- E
unfoldable pub opening_cost : ℕ → ℕ
opening_cost n = cost_by (told (costs_below n)) n
