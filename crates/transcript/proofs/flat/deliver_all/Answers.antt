-- `transcript::flat::deliver_all` meets its contract. Assumes nothing.
use Rattle.transcript.proofs.FlatPaths.{turn_fits, turn_on, stopped}
use Rattle.transcript.proofs.flat.deliver_all.Goals as goal

pub loop-head-preserved : goal.loop-head-preserved
loop-head-preserved c = search (turn_fits, turn_on)

pub returns : goal.returns
returns c = search stopped
