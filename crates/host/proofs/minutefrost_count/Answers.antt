-- `minutefrost_count` meets its contract: what `count` tells is handed on. Assumes nothing.
use Rattle.host.proofs.SignPaths.{handed_on}
use Rattle.host.proofs.minutefrost_count.Goals as goal

pub returns : goal.returns
returns c = handed_on c.count.ensures c.told.ensures
