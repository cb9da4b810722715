-- `sheet::layout::Sheet::rows` meets its contract: a row more each turn. Assumes nothing.
use Rattle.std.proofs.Common.{◌∙◌}
use Rattle.sheet.proofs.LayoutPaths.{rows_done, rows_room, rows_more}
use Rattle.sheet.proofs.layout.Sheet.rows.Goals as goal

pub row-requires : goal.row-requires
row-requires c =
    let steps = c.in-Some.ensures.steps in
    let left = c.loop-row.invariant in
    rows_room _ _ c.requires _ _ left.1 _ _ steps.1.0 (rw left.0 at steps.1.1) steps.1.2

pub loop-row-preserved : goal.loop-row-preserved
loop-row-preserved c =
    let steps = c.in-Some.ensures.steps in
    let left = c.loop-row.invariant in
    (steps.0 ∙ left.0, rows_more _ _ c.requires _ _ left.1 _ _ steps.1.0 (rw left.0 at steps.1.1) steps.1.2 c.row.ensures)

pub returns : goal.returns
returns c = rows_done _ _ c.requires _ _ c.loop-row.invariant.1 c.in-None.ensures.steps.1.0
