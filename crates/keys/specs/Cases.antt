-- Question 1 of stores with these or those sums beside their keys (document 02, slip 7), as rows that compute: "A store is in order only if these numbers are
-- right too". That each row gives what is wanted is one law (`sum_cases_hold` of proofs/Cases). Assumes nothing.
use Rattle.std.specs.Prelude.{ℕ, ◌-◌, Bool, true, false, List, [], ◌∷◌, ◌++◌, length}
use Rattle.keys.specs.declared.store.Store.{Store}
use Rattle.keys.specs.Store.{limit, zeros, store_of, in_order}
use Rattle.keys.specs.Lent.{store_by}

-- the store of the keys l with these sums, then zeros
abbrev pub with_sums : List ℕ → List ℕ → Store
with_sums l sums = store_by (store_of l).keys (sums ++ zeros (limit - length sums)) (length l)

pub record Row : Type 0 where
  pub gives : Bool
  pub wanted : Bool

abbrev pub right : List ℕ → List ℕ → Row
right l sums = record { gives = in_order (with_sums l sums); wanted = true }

abbrev pub wrong : List ℕ → List ℕ → Row
wrong l sums = record { gives = in_order (with_sums l sums); wanted = false }

abbrev pub sum_table : List Row
sum_table =
    right (1 ∷ 4 ∷ 16 ∷ []) (1 ∷ 5 ∷ 21 ∷ [])
    -- the first of them wrong, the last, one between
    ∷ wrong (1 ∷ 4 ∷ 16 ∷ []) (0 ∷ 5 ∷ 21 ∷ [])
    ∷ wrong (1 ∷ 4 ∷ 16 ∷ []) (1 ∷ 5 ∷ 20 ∷ [])
    ∷ wrong (1 ∷ 4 ∷ 16 ∷ []) (1 ∷ 4 ∷ 21 ∷ [])
    -- the keys themselves, the neighbours' sums, those of another store
    ∷ wrong (1 ∷ 4 ∷ 16 ∷ []) (1 ∷ 4 ∷ 16 ∷ [])
    ∷ wrong (1 ∷ 4 ∷ 16 ∷ []) (0 ∷ 1 ∷ 5 ∷ [])
    ∷ wrong (1 ∷ 4 ∷ 16 ∷ []) (1 ∷ 3 ∷ 19 ∷ [])
    -- one past the count
    ∷ wrong (1 ∷ 4 ∷ 16 ∷ []) (1 ∷ 5 ∷ 21 ∷ 21 ∷ [])
    ∷ wrong [] (1 ∷ [])
    -- zeros, which are right for no key and for key 0 alone
    ∷ wrong (1 ∷ 4 ∷ 16 ∷ []) []
    ∷ wrong (0 ∷ 1 ∷ []) []
    ∷ right (0 ∷ []) []
    ∷ right [] []
    ∷ []
