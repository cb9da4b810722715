-- `join::join` meets its contract: the nodes of both images are joined, and the joined node saved. Assumes nothing.
use Rattle.std.proofs.Common.{refl}
use Rattle.std.proofs.lemmas.Result.{err_from_is_err_and}
use Rattle.keys.specs.Store.{zeros}
use Rattle.host.proofs.SavePaths.{known_saved, known_unsaved}
use Rattle.host.proofs.JoinPaths.{joining_numbered}
use Rattle.host.proofs.join.join.Goals as goal

pub joined_from-requires : goal.joined_from-requires
unfolding zeros
joined_from-requires c = refl

pub returns-in_err-node : goal.returns-in_err-node
returns-in_err-node c = let p = err_from_is_err_and c.from_residual.result c.from_residual.ensures.1 in rw (p.1, p.2) (known_unsaved (joining_numbered c.args.first.now c.args.second.now) _ c.in_err-node.ensures _)

pub returns : goal.returns
returns c = known_saved (joining_numbered c.args.first.now c.args.second.now) c.in_ok-node.ensures c.save.ensures
