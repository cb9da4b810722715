-- `images::put_image` meets its contract: a section right after another is the image. Assumes nothing.
use Rattle.wire.proofs.ImagePaths.{keys_room, pending_room, image_put}
use Rattle.wire.proofs.images.put_image.Goals as goal

pub write_section-requires : goal.write_section-requires
write_section-requires c = keys_room c.args.keys.now c.args.pending.now c.args.out.now c.requires

pub write_section-requires-2 : goal.write_section-requires-2
write_section-requires-2 c = rw c.write_section.auto.out (pending_room c.args.keys.now c.args.pending.now c.args.out.now c.requires)

pub returns : goal.returns
returns c = image_put c.args.keys.now c.args.pending.now c.args.out.now c.requires c.write_section.ensures c.write_section-2.ensures
