-- `images::table_at` meets its contract. Assumes nothing.
use Rattle.wire.proofs.ImagePaths.{table_read}
use Rattle.wire.proofs.images.table_at.Goals as goal

pub returns : goal.returns
returns c = table_read c.args.bytes.now c.args.at c.args.count c.requires.0 c.read_run.ensures
