-- The invariant: finishing from here is finishing from the start. Assumes nothing.
use Rattle.std.proofs.Common.{◌-◌, ◌≡◌, ◌≤◌}
use Rattle.rule.specs.Call.{records_in}
use Rattle.transcript.specs.Core.{core_by, finish}
use Rattle.transcript.proofs.flat.deliver_all.Given as goal

abbrev pub invariant-loop-head : goal.invariant-loop-head
invariant-loop-head l = record {
  fits : l.reached.tail ≤ records_in l.words;
  on : finish (core_by l.initial.left l.initial.right l.initial.words l.from l.initial.reached)
      ≡ finish (core_by l.left l.right l.words l.head l.reached);
}

abbrev pub decreases-loop-head : goal.decreases-loop-head
decreases-loop-head l = records_in l.words - l.head
