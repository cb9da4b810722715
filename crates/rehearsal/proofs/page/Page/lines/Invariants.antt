-- `rehearsal::page::Page::lines` meets its contract. The invariant: the lines of the records passed are put. Assumes nothing.
use Rattle.std.proofs.Common.{◌*◌}
use Rattle.rehearsal.specs.Page.{Puts}
use Rattle.rehearsal.specs.Text.{rows, line_limit}
use Rattle.rehearsal.proofs.page.Page.lines.Given as goal

abbrev pub invariant-loop-row : goal.invariant-loop-row
invariant-loop-row l =
    Puts l.initial.self (rows l.row-index l.words) (line_limit * l.row-index) l.self
