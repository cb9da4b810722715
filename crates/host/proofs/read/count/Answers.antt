-- `read::count` meets its contract: one law for each way. Assumes nothing.
use Rattle.std.proofs.Common.{refl}
use Rattle.std.proofs.lemmas.Result.{err_from_is_err_and}
use Rattle.keys.specs.Store.{zeros}
use Rattle.host.proofs.LibPaths.{counted_no, counted_yes}
use Rattle.host.proofs.read.count.Goals as goal

pub load-requires : goal.load-requires
unfolding zeros
load-requires c = refl

pub returns-in_err-node : goal.returns-in_err-node
returns-in_err-node c = let p = err_from_is_err_and c.from_residual.result c.from_residual.ensures.1 in rw (p.1, p.2) (counted_no _ c.in_err-node.ensures _ refl)

pub returns : goal.returns
returns c = counted_yes _ c.in_ok-node.ensures refl
