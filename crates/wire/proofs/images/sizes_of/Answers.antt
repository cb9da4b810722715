-- `images::sizes_of` meets its contract: one law for each way. Assumes nothing.
use Rattle.std.proofs.Common.{arith, Err, ◌≡◌}
use Rattle.wire.proofs.ImagePaths.{sizes_keys, sizes_pending, sizes_both}
use Rattle.wire.proofs.images.sizes_of.Goals as goal

pub returns-in_err-keys-clause-told : goal.returns-in_err-keys-clause-told
returns-in_err-keys-clause-told c =
    let refused : c.from_residual.result ≡ Err c.in_err-keys.field-0.0 = grind arith in
    rw refused (sizes_keys c.args.bytes.now _ c.in_err-keys.ensures.told)

pub returns-in_err-pending-clause-told : goal.returns-in_err-pending-clause-told
returns-in_err-pending-clause-told c =
    let refused : c.from_residual-in_err-pending.result ≡ Err c.in_err-pending.field-0.0 = grind arith in
    rw refused (sizes_pending c.args.bytes.now c.in_ok-keys.ensures.told _ c.in_err-pending.ensures.told)

pub returns-clause-told : goal.returns-clause-told
returns-clause-told c = sizes_both c.args.bytes.now c.in_ok-keys.ensures.told c.in_ok-pending.ensures.told
