-- The rows of specs/Cases hold, by computing both columns. Assumes nothing.
use mathlib.Core.List.{map}
use mathlib.Core.Path.{◌≡◌, refl}
use Rattle.keys.specs.Store.{zeros, store_of, in_order}
use Rattle.keys.specs.Cases.{Row, sum_table}

pub sum_cases_hold : map (λ (r : Row). r.gives) sum_table ≡ map (λ (r : Row). r.wanted) sum_table
unfolding zeros store_of in_order
sum_cases_hold = refl
