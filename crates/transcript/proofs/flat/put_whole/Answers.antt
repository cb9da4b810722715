-- `transcript::flat::put_whole` meets its contract. Assumes nothing.
use Rattle.transcript.proofs.FlatPaths.{whole_some}
use Rattle.transcript.proofs.flat.put_whole.Goals as goal

pub returns : goal.returns
returns c = search whole_some
