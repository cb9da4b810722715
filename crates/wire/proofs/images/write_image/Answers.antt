-- `images::write_image` meets its contract: 1 is asked, and then the image written. Assumes nothing.
use Rattle.std.proofs.Common.{length, rules, ◌≡◌}
use Rattle.keys.specs.Store.{limit}
use Rattle.wire.proofs.ImagePaths.{write_image_1, write_image_done}
use Rattle.wire.proofs.images.write_image.Goals as goal

pub returns-then-not-ordered : goal.returns-then-not-ordered
returns-then-not-ordered c = write_image_1 _ _ c.if-not-ordered.ensures

pub returns : goal.returns
returns c =
    let long : length c.args.node.now.store.keys ≡ limit = search rules in
    let (r, after) = c.write_parts.ensures in
    write_image_done _ _ c.if-not-ordered.ensures long r after
