-- `rehearsal::page::Page::line` meets its contract: the letter, four fields, the line feed. Assumes nothing.
use Rattle.rehearsal.specs.Text.{row_at, four_at}
use Rattle.rehearsal.proofs.PagePaths.{puts_then}
use Rattle.rehearsal.proofs.page.Page.line.Goals as goal

pub returns : goal.returns
unfolding row_at four_at
returns c =
    let four = puts_then c.field.ensures (puts_then c.field-2.ensures (puts_then c.field-3.ensures c.field-4.ensures)) in
    rw c.letter.ensures at (puts_then c.bytes.ensures (puts_then four c.bytes-2.ensures))
