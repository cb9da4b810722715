-- `sheet::layout::Sheet::numbered` meets its contract: the word, then the number. Assumes nothing.
use Rattle.sheet.proofs.LayoutPaths.{puts_then}
use Rattle.sheet.proofs.layout.Sheet.numbered.Goals as goal

pub returns : goal.returns
returns c = puts_then c.bytes.ensures c.right.ensures
