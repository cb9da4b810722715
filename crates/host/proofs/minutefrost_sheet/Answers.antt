-- `minutefrost_sheet` meets its contract: what `write_sheet` tells is handed on. Assumes nothing.
use Rattle.host.proofs.SignPaths.{handed_on}
use Rattle.host.proofs.minutefrost_sheet.Goals as goal

pub returns : goal.returns
returns c = (handed_on c.write_sheet.ensures.0 c.told.ensures, c.write_sheet.ensures.1)
