-- `images::contents` meets its contract. Assumes nothing.
use Rattle.wire.proofs.ImagePaths.{contents_read, contents_lent}
use Rattle.wire.proofs.images.contents.Goals as goal

pub returns : goal.returns
returns c = (contents_read c.requires c.table_at-pending.ensures, contents_lent c.requires c.args.keys.now c.told-keys c.read_run.ensures)
