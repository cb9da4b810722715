-- `run::read_run` meets its contract. The invariant: the things passed stand before what stood there. Assumes nothing.
use Rattle.std.proofs.Common.{◌≡◌, drop}
use Rattle.keys.specs.Place.{put_at}
use Rattle.wire.specs.Run.{read_run}
use Rattle.wire.proofs.run.read_run.Given as goal

abbrev pub invariant-loop-i : goal.invariant-loop-i
invariant-loop-i g l = l.things ≡ put_at l.initial.things 0 (read_run g.T.Laid.layout l.i (drop l.at l.s))
