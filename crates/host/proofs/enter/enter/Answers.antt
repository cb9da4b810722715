-- `enter::enter` meets its contract: the key is entered, and the node saved. Assumes nothing.
use Rattle.std.proofs.Common.{refl}
use Rattle.std.proofs.lemmas.Result.{err_from_is_err_and}
use Rattle.keys.specs.Store.{zeros}
use Rattle.host.proofs.SavePaths.{known_saved, known_unsaved}
use Rattle.host.proofs.LibPaths.{entering_numbered}
use Rattle.host.proofs.enter.enter.Goals as goal

pub entered_into-requires : goal.entered_into-requires
unfolding zeros
entered_into-requires c = refl

pub returns-in_err-node : goal.returns-in_err-node
returns-in_err-node c = let p = err_from_is_err_and c.from_residual.result c.from_residual.ensures.1 in rw (p.1, p.2) (known_unsaved (entering_numbered c.args.image.now c.args.key) _ c.in_err-node.ensures _)

pub returns : goal.returns
returns c = known_saved (entering_numbered c.args.image.now c.args.key) c.in_ok-node.ensures c.save.ensures
