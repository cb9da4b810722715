-- `sheet::layout::Sheet::page` meets its contract: the line above it, then the rows. Assumes nothing.
use Rattle.sheet.proofs.LayoutPaths.{page_head_room, page_rows_room, page_put}
use Rattle.sheet.proofs.layout.Sheet.page.Goals as goal

pub head-requires : goal.head-requires
head-requires c = (c.requires.head, page_head_room c.args.self.now _ _ _ c.requires)

pub rows-requires : goal.rows-requires
rows-requires c = page_rows_room _ _ _ _ c.requires c.head.ensures

pub returns : goal.returns
returns c = page_put _ _ _ _ c.requires c.head.ensures c.rows.ensures
