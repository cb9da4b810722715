-- `sheet::call::write_sheet` meets its contract. Assumes nothing.
use Rattle.std.proofs.Common.{rules}
use Rattle.sheet.proofs.CallPaths.{lent_summed, unordered, count_within, in_order_laid}
use Rattle.sheet.proofs.call.write_sheet.Goals as goal

pub returns-then-not-summed_in : goal.returns-then-not-summed_in
returns-then-not-summed_in c = unordered _ (search rules) (search lent_summed) c.if-not-summed_in.true _

pub shared_ref_as_front-write_sheet_in : goal.shared_ref_as_front-write_sheet_in
shared_ref_as_front-write_sheet_in c = count_within c.args.store.now (search rules) (search lent_summed) c.if-not-summed_in.false

pub returns : goal.returns
returns c = in_order_laid _ (search rules) (search lent_summed) c.if-not-summed_in.false _ c.write_sheet_in.ensures
