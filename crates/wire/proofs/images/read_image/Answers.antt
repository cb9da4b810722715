-- `images::read_image` meets its contract: one law for each way; the code names those of the ways that are not here. Assumes nothing.
use Rattle.std.proofs.Common.{arith, rules, Err, refl, ◌≡◌}
use Rattle.wire.proofs.ImagePaths.{image_unread, image_read}
use Rattle.wire.proofs.images.read_image.Goals as goal

pub returns-in_err-read : goal.returns-in_err-read
returns-in_err-read c =
    let refused : c.from_residual.result ≡ Err c.in_err-read.field-0.0 = grind arith in
    rw refused (image_unread c.args.bytes.now _ c.in_err-read.ensures.0)

pub returns : goal.returns
returns c =
    let read = c.in_ok-read.ensures in
    image_read c.args.bytes.now c.empty-store.ensures.0 read.0 read.1 c.in_ok-rest.ensures refl (search rules) _ c.renew.ensures
