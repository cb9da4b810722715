-- `nodes::order::pending` meets its contract. The invariant: all the claims rise, fit and pass 16 exactly if those from the next on do, the first of them from
-- above `last`, and none before it failed 16. Assumes nothing.
use Rattle.std.proofs.Common.{take}
use Rattle.nodes.proofs.OrderPaths.{Looking}
use Rattle.nodes.proofs.order.pending.Given as goal

abbrev pub invariant-loop-claim : goal.invariant-loop-claim
invariant-loop-claim l =
    Looking l.claims (take l.held l.keys) l.last l.claim-index l.given
