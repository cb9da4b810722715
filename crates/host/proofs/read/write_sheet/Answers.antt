-- `read::write_sheet` meets its contract: one law for each way. Assumes nothing.
use Rattle.std.proofs.Common.{refl, rules, arith}
use Rattle.std.proofs.lemmas.Result.{err_from_is_err_and}
use Rattle.keys.specs.Store.{zeros}
use Rattle.host.proofs.LibPaths.{loaded_few}
use Rattle.host.proofs.SheetPaths.{sheet_no, sheet_part, sheet_written}
use Rattle.host.proofs.read.write_sheet.Goals as goal

pub load-requires : goal.load-requires
unfolding zeros
load-requires c = refl

pub returns-in_err-node : goal.returns-in_err-node
returns-in_err-node c = let p = err_from_is_err_and c.from_residual.result c.from_residual.ensures.1 in rw (p.1, p.2) (sheet_no _ _ c.in_err-node.ensures _ refl)

pub slice_bounds-keys-end : goal.slice_bounds-keys-end
slice_bounds-keys-end c =
    let few = loaded_few _ c.in_ok-node.ensures refl in
    let long = c.load.array_long in
    omega arith

pub slice_bounds-write_sheet_in-end : goal.slice_bounds-write_sheet_in-end
slice_bounds-write_sheet_in-end c = sheet_part _ c.args.out.now c.in_ok-node.ensures refl

pub returns : goal.returns
returns c = sheet_written _ _ c.in_ok-node.ensures refl (search rules) c.write_sheet_in.ensures.1 _ c.write_sheet_in.ensures.0
