-- `merging::runs::walk` meets its contract. The invariant: where there are places, what is left of both, merged and written behind what is, gives what is to
-- come out. Assumes nothing.
use Rattle.std.proofs.Common.{length, ◌+◌, ◌-◌}
use Rattle.merging.proofs.RunsPaths.{Walking}
use Rattle.merging.proofs.runs.walk.Given as goal

abbrev pub invariant-loop-i : goal.invariant-loop-i
invariant-loop-i g l =
    Walking g.row.PLACES l.one l.other l.initial.into l.into l.i l.j l.n

abbrev pub decreases-loop-i : goal.decreases-loop-i
decreases-loop-i g l =
    length l.one - l.i + (length l.other - l.j)
