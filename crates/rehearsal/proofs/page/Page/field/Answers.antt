-- `rehearsal::page::Page::field` meets its contract: the space, then the digits. Assumes nothing.
use Rattle.std.proofs.Common.{arith, refl}
use Rattle.text.proofs.DecimalLaws.{length_decimal_most}
use Rattle.rehearsal.specs.Text.{field}
use Rattle.rehearsal.proofs.PagePaths.{puts_text, puts_then}
use Rattle.rehearsal.proofs.page.Page.field.Goals as goal

pub returns : goal.returns
unfolding field
returns c =
    let few = length_decimal_most c.args.n (omega arith) in
    let digits = puts_text _ _ _ refl c.put_decimal-self.ensures.0 c.put_decimal-self.ensures.1 few (omega arith) in
    puts_then c.bytes.ensures digits
