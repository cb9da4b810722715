-- `minutefrost_beat` meets its contract: what `beat` tells is handed on. Assumes nothing.
use Rattle.host.proofs.SignPaths.{handed_on}
use Rattle.host.proofs.minutefrost_beat.Goals as goal

pub returns : goal.returns
returns c = (handed_on c.beat.ensures.tells c.told.ensures, c.beat.ensures.left, c.beat.ensures.sent)
