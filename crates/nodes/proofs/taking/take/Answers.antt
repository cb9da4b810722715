-- `nodes::taking::take` meets its contract. Assumes nothing.
use Rattle.std.proofs.Common.{◌≡◌, Err, arith}
use Rattle.nodes.proofs.TakingPaths.{taken_1, taken_in, taken_not}
use Rattle.nodes.proofs.taking.take.Goals as goal

pub returns-then-not-in_order : goal.returns-then-not-in_order
returns-then-not-in_order c = taken_1 c.args.node.now c.args.claim _ c.in_order.ensures.told c.if-not-in_order.true

pub returns-in_err-node : goal.returns-in_err-node
returns-in_err-node c =
    let refused : c.from_residual.result ≡ Err c.in_err-node.field-0.0 = grind arith in
    let known = c.in_order.ensures in
    rw refused (taken_not c.args.node.now c.args.claim _ known.told c.if-not-in_order.false known.whole known.sized _ c.in_err-node.ensures)

pub returns : goal.returns
returns c =
    let known = c.in_order.ensures in
    taken_in c.args.node.now c.args.claim _ known.told c.if-not-in_order.false known.whole known.sized c.in_ok-node.ensures c.renew.ensures
