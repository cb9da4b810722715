-- `sheet::layout::Sheet::head` meets its contract: one piece after another. Assumes nothing.
use Rattle.sheet.proofs.LayoutPaths.{head_put}
use Rattle.sheet.proofs.layout.Sheet.head.Goals as goal

pub returns : goal.returns
returns c = head_put _ _ c.requires.0 c.numbered.ensures c.numbered-2.ensures c.spaces.ensures c.bytes.ensures
