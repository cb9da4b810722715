-- `sheet::call::put_whole` meets its contract. Assumes nothing.
use Rattle.sheet.proofs.CallPaths.{whole_given, whole_put}
use Rattle.sheet.proofs.call.put_whole.Goals as goal

pub put_sheet-requires : goal.put_sheet-requires
put_sheet-requires c = whole_given _ _ c.requires.0 (λ i. (c.type_inv.keys i).fits) c.requires.1

pub returns : goal.returns
returns c = whole_put _ _ c.requires.0 (λ i. (c.type_inv.keys i).fits) c.requires.1 c.sheet_length.ensures.0 c.put_sheet.ensures
