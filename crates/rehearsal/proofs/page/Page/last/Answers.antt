-- `rehearsal::page::Page::last` meets its contract: one piece after another. Assumes nothing.
use Rattle.rehearsal.proofs.PagePaths.{puts_then}
use Rattle.rehearsal.proofs.page.Page.last.Goals as goal

pub returns : goal.returns
returns c = puts_then c.labelled.ensures (puts_then c.labelled-2.ensures (puts_then c.labelled-3.ensures c.bytes.ensures))
