-- `keys::leaf::resum` meets its contract. The invariant: the sums passed, and those that follow from the sum so far, are all that are worked out. Assumes nothing.
use Rattle.std.proofs.Common.{◌≡◌}
use Rattle.keys.specs.Store.{running_from}
use Rattle.keys.proofs.LeafPaths.{resum_from}
use Rattle.keys.proofs.leaf.resum.Given as goal

abbrev pub invariant-loop-i : goal.invariant-loop-i
invariant-loop-i l = resum_from l.part l.sum-items l.so_far l.i ≡ running_from l.before l.part
