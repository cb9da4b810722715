-- `images::read_image_in` meets its contract: one law for each way. Assumes nothing.
use Rattle.std.proofs.Common.{arith, Err, ◌≡◌}
use Rattle.wire.proofs.ImagePaths.{read_image_in_counts, read_image_in_length, told_readable}
use Rattle.wire.proofs.images.read_image_in.Goals as goal

pub returns-in_err-sizes : goal.returns-in_err-sizes
returns-in_err-sizes c =
    let refused : c.from_residual.result ≡ Err c.in_err-sizes.field-0.0 = grind arith in
    rw refused (read_image_in_counts c.args.bytes.now c.args.keys.now _ c.in_err-sizes.ensures.told)

pub returns-then-bytes-length : goal.returns-then-bytes-length
returns-then-bytes-length c = read_image_in_length c.args.bytes.now c.in_ok-sizes.ensures.told c.length.ensures c.args.keys.now c.if-bytes-length.true

pub contents-requires : goal.contents-requires
contents-requires c = told_readable c.args.bytes.now c.in_ok-sizes.ensures.told c.length.ensures c.if-bytes-length.false
