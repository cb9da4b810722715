-- `sheet::layout::Sheet::right` meets its contract. Assumes nothing.
use Rattle.std.proofs.Common.{refl}
use Rattle.sheet.proofs.LayoutPaths.{right_after, right_room, puts_right}
use Rattle.sheet.proofs.layout.Sheet.right.Goals as goal

pub overflow_sub-start : goal.overflow_sub-start
overflow_sub-start c = search right_after

pub spaces-requires : goal.spaces-requires
spaces-requires c = search right_room

pub returns : goal.returns
returns c =
    let put = c.put_decimal_before-start.ensures in
    puts_right _ _ _ _ _ _ c.requires.0 c.requires.1 put.0 put.1 c.spaces.ensures.same c.spaces.ensures.put refl
