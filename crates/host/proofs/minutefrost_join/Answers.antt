-- `minutefrost_join` meets its contract: what `join` tells is handed on. Assumes nothing.
use Rattle.host.proofs.SignPaths.{handed_on}
use Rattle.host.proofs.minutefrost_join.Goals as goal

pub returns : goal.returns
returns c = (handed_on c.join.ensures.tells c.told.ensures, c.join.ensures.left)
