-- `minutefrost_enter` meets its contract: what `enter` tells is handed on. Assumes nothing.
use Rattle.host.proofs.SignPaths.{handed_on}
use Rattle.host.proofs.minutefrost_enter.Goals as goal

pub returns : goal.returns
returns c = (handed_on c.enter.ensures.tells c.told.ensures, c.enter.ensures.left)
