-- `run::write_run` meets its contract. The invariant: the things passed stand at the place. Assumes nothing.
use Rattle.std.proofs.Common.{◌≡◌, take}
use Rattle.keys.specs.Place.{put_at}
use Rattle.wire.specs.Run.{write_run}
use Rattle.wire.proofs.run.write_run.Given as goal

abbrev pub invariant-loop-i : goal.invariant-loop-i
invariant-loop-i g l = l.out ≡ put_at l.initial.out l.at (write_run g.T.Laid.layout (take l.i l.things))
