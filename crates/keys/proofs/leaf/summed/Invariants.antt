-- `keys::leaf::summed` meets its contract. The invariant: all are the sums of the keys exactly if those from i on follow from the sum so far. Assumes nothing.
use Rattle.std.proofs.Common.{drop, ◌≡◌}
use Rattle.keys.specs.Store.{running_from, running, same_keys}
use Rattle.keys.proofs.leaf.summed.Given as goal

abbrev pub invariant-loop-i : goal.invariant-loop-i
invariant-loop-i l = same_keys l.sums (running l.keys) ≡ same_keys (drop l.i l.sums) (running_from l.sum (drop l.i l.keys))
