-- `enter::entered_into` meets its contract: one law for each way. Assumes nothing.
use Rattle.std.proofs.Common.{refl}
use Rattle.host.proofs.LibPaths.{entered_into_unfit, entered_into_fit}
use Rattle.host.proofs.enter.entered_into.Goals as goal

pub returns-in_default : goal.returns-in_default
returns-in_default c = entered_into_unfit _ c.in_ok-node.ensures refl _ c.in_default.ensures refl refl refl

pub returns : goal.returns
returns c = entered_into_fit _ c.in_ok-node.ensures refl _ c.in-Some.ensures refl refl
