-- `nodes::taking::take_in` meets its contract. Assumes nothing.
use Rattle.std.proofs.Common.{◌≡◌, Err, arith}
use Rattle.nodes.proofs.TakingPaths.{take_refused, take_done}
use Rattle.nodes.proofs.taking.take_in.Goals as goal

pub returns-in_err-heard : goal.returns-in_err-heard
returns-in_err-heard c =
    let refused : c.from_residual.result ≡ Err c.in_err-heard.field-0.0 = grind arith in
    rw refused (take_refused c.args.keys.now c.args.held c.args.pending.now c.args.claim c.hear_in.new.keys _ c.in_err-heard.ensures)

pub returns : goal.returns
returns c = take_done c.args.keys.now c.args.held c.args.pending.now c.args.claim c.hear_in.new.keys c.in_ok-heard.ensures c.enlist.ensures
