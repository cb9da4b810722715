-- `images::image_length` meets its contract: one law for each way. Assumes nothing.
use Rattle.std.proofs.Common.{arith, Err, ◌≡◌}
use Rattle.wire.proofs.ImagePaths.{image_length_counts, image_length_short, image_length_0}
use Rattle.wire.proofs.images.image_length.Goals as goal

pub returns-in_err-sizes_of : goal.returns-in_err-sizes_of
returns-in_err-sizes_of c =
    let refused : c.from_residual.result ≡ Err c.in_err-sizes_of.field-0.0 = grind arith in
    rw refused (image_length_counts c.args.bytes.now _ c.in_err-sizes_of.ensures.told)

pub returns-then-bytes-length : goal.returns-then-bytes-length
returns-then-bytes-length c = image_length_short c.args.bytes.now c.in_ok-sizes_of.ensures.told c.length-length.ensures c.if-bytes-length.true

pub returns : goal.returns
returns c = image_length_0 c.args.bytes.now c.in_ok-sizes_of.ensures.told c.length-length.ensures c.if-bytes-length.false
