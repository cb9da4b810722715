-- `turn::take_frame` meets its contract: the frame is taken, and the node saved. Assumes nothing.
use Rattle.std.proofs.Common.{refl}
use Rattle.std.proofs.lemmas.Result.{err_from_is_err_and}
use Rattle.keys.specs.Store.{zeros}
use Rattle.host.proofs.SavePaths.{known_saved, known_unsaved}
use Rattle.host.proofs.LibPaths.{taking_numbered}
use Rattle.host.proofs.turn.take_frame.Goals as goal

pub taken_from-requires : goal.taken_from-requires
unfolding zeros
taken_from-requires c = refl

pub returns-in_err-node : goal.returns-in_err-node
returns-in_err-node c = let p = err_from_is_err_and c.from_residual.result c.from_residual.ensures.1 in rw (p.1, p.2) (known_unsaved (taking_numbered c.args.image.now c.args.frame.now) _ c.in_err-node.ensures _)

pub returns : goal.returns
returns c = known_saved (taking_numbered c.args.image.now c.args.frame.now) c.in_ok-node.ensures c.save.ensures
