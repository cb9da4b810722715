-- `keys::search::quartered` meets its contract. The invariant: what is found in the part that is left is what is found in the run. Assumes nothing.
use Rattle.keys.proofs.SearchPaths.{Narrowed}
use Rattle.keys.proofs.search.quartered.Given as goal

abbrev pub invariant-loop-size : goal.invariant-loop-size
invariant-loop-size l = Narrowed l.keys l.count l.key l.search.part.now l.search.at l.search.key l.size

abbrev pub decreases-loop-size : goal.decreases-loop-size
decreases-loop-size l = l.size
