-- `rehearsal::page::Page::lines` meets its contract: one line more each turn. Assumes nothing.
use Rattle.std.proofs.Common.{arith, rules, ◌<◌}
use Rattle.rehearsal.proofs.PagePaths.{rows_none, rows_more}
use Rattle.rehearsal.proofs.page.Page.lines.Goals as goal

pub loop-row-init : goal.loop-row-init
loop-row-init c = rows_none _ _ (omega arith)

pub loop-row-preserved : goal.loop-row-preserved
loop-row-preserved c =
    let below : c.loop-row.row-index < c.args.n = search rules in
    rows_more _ _ _ c.args.n c.loop-row.invariant c.as_chunks.ensures.front below c.requires.1 c.line.ensures
