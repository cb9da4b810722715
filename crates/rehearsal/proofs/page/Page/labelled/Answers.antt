-- `rehearsal::page::Page::labelled` meets its contract: the word, then the field. Assumes nothing.
use Rattle.rehearsal.proofs.PagePaths.{puts_then}
use Rattle.rehearsal.proofs.page.Page.labelled.Goals as goal

pub returns : goal.returns
returns c = puts_then c.bytes.ensures c.field.ensures
