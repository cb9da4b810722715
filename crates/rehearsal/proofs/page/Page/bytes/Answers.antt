-- `rehearsal::page::Page::bytes` meets its contract. Assumes nothing.
use Rattle.std.proofs.Common.{le_refl, refl}
use Rattle.rehearsal.proofs.PagePaths.{puts_text}
use Rattle.rehearsal.proofs.page.Page.bytes.Goals as goal

pub returns : goal.returns
returns c = puts_text _ _ _ refl c.put_bytes-self.ensures.0 c.put_bytes-self.ensures.1 (le_refl _) c.requires
