-- `sheet::call::write_sheet_in` meets its contract. Assumes nothing.
use Rattle.sheet.proofs.CallPaths.{long, short, sheet_given, sheet_laid}
use Rattle.sheet.proofs.call.write_sheet_in.Goals as goal

pub returns-then-keys-gt-LIMIT : goal.returns-then-keys-gt-LIMIT
returns-then-keys-gt-LIMIT c = long _ _ c.if-keys-gt-LIMIT.true

pub returns-then-out-length : goal.returns-then-out-length
returns-then-out-length c =
    short _ _ c.if-keys-gt-LIMIT.false (λ i. (c.type_inv.keys i).fits) c.sheet_length-length.ensures.0 c.if-out-length.true

pub put_sheet-requires : goal.put_sheet-requires
put_sheet-requires c =
    sheet_given _ _ c.if-keys-gt-LIMIT.false (λ i. (c.type_inv.keys i).fits) c.sheet_length-length.ensures.0 c.if-out-length.false

pub returns : goal.returns
returns c =
    sheet_laid _ _ c.if-keys-gt-LIMIT.false (λ i. (c.type_inv.keys i).fits) c.sheet_length-length.ensures.0 c.if-out-length.false c.put_sheet.ensures
