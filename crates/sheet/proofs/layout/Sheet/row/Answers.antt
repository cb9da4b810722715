-- `sheet::layout::Sheet::row` meets its contract: its three columns. Assumes nothing.
use Rattle.sheet.proofs.LayoutPaths.{row_put}
use Rattle.sheet.proofs.layout.Sheet.row.Goals as goal

pub returns : goal.returns
returns c = row_put _ c.field.ensures c.bytes.ensures c.field-2.ensures c.bytes-2.ensures c.field-3.ensures c.bytes-3.ensures
