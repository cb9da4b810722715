-- `keys::search::both_quartered` meets its contract. The invariant: for either key, what is found in the part that is left is what is found in its run.
-- Assumes nothing.
use Rattle.keys.proofs.SearchPaths.{Narrowed}
use Rattle.keys.proofs.search.both_quartered.Given as goal

abbrev pub invariant-loop-size : goal.invariant-loop-size
invariant-loop-size l =
    Narrowed l.lows l.count l.lo l.lower.part.now l.lower.at l.lower.key l.size × Narrowed l.highs l.count l.hi l.upper.part.now l.upper.at l.upper.key l.size

abbrev pub decreases-loop-size : goal.decreases-loop-size
decreases-loop-size l = l.size
