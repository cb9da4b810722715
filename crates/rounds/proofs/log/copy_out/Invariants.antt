-- `copy_out`: the records hold what i turns have stored. Assumes nothing.
use Rattle.std.proofs.Common.{◌≡◌}
use Rattle.rounds.specs.Log.{copied}
use Rattle.rounds.proofs.log.copy_out.Given as goal

abbrev pub invariant-loop-i : goal.invariant-loop-i
invariant-loop-i l = l.log ≡ copied l.i l.words l.initial.log
