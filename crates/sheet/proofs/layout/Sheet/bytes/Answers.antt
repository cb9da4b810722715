-- `sheet::layout::Sheet::bytes` meets its contract. Assumes nothing.
use Rattle.std.proofs.Common.{refl}
use Rattle.sheet.proofs.LayoutPaths.{puts_text}
use Rattle.sheet.proofs.layout.Sheet.bytes.Goals as goal

pub returns : goal.returns
returns c = puts_text _ _ _ refl c.put_bytes-self.ensures.0 c.put_bytes-self.ensures.1 c.requires
