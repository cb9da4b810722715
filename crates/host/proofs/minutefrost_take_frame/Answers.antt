-- `minutefrost_take_frame` meets its contract: what `take_frame` tells is handed on. Assumes nothing.
use Rattle.host.proofs.SignPaths.{handed_on}
use Rattle.host.proofs.minutefrost_take_frame.Goals as goal

pub returns : goal.returns
returns c = (handed_on c.take_frame.ensures.tells c.told.ensures, c.take_frame.ensures.left)
