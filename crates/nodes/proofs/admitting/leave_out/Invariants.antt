-- `nodes::admitting::leave_out` meets its contract. The invariant: of the claims before i those that pass 16 stand in front, and zeros where the others stood.
-- Assumes nothing.
use Rattle.nodes.proofs.AdmittingPaths.{Leaving}
use Rattle.nodes.proofs.admitting.leave_out.Given as goal

abbrev pub invariant-loop-i : goal.invariant-loop-i
invariant-loop-i l =
    Leaving l.initial.places l.count l.i l.kept l.places
