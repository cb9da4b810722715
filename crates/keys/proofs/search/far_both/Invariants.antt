-- `keys::search::far_both` meets its contract. The invariant: for either key, what is found in the part that is left is what is found in the run.
-- Assumes nothing.
use Rattle.std.proofs.Common.{drop}
use Rattle.keys.proofs.SearchPaths.{Narrowed}
use Rattle.keys.proofs.search.far_both.Given as goal

abbrev pub invariant-loop-size : goal.invariant-loop-size
invariant-loop-size l =
    Narrowed l.keys l.count l.lo (drop l.first l.keys) l.first l.lo l.size × Narrowed l.keys l.count l.hi (drop l.last l.keys) l.last l.hi l.size

abbrev pub decreases-loop-size : goal.decreases-loop-size
decreases-loop-size l = l.size
