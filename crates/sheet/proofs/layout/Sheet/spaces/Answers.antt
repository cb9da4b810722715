-- `sheet::layout::Sheet::spaces` meets its contract. Assumes nothing.
use Rattle.std.proofs.Common.{arith, refl, length-take, length-drop}
use Rattle.sheet.proofs.LayoutPaths.{puts_spaces}
use Rattle.sheet.proofs.layout.Sheet.spaces.Goals as goal

pub returns : goal.returns
returns c = puts_spaces _ _ _ _ refl refl (c.fill.ensures.after (λ y e. e)) (rw (length-take, length-drop) (omega arith)) refl c.requires
