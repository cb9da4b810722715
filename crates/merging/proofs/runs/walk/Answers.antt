use Rattle.std.proofs.Common.{get_or, min}
use Rattle.merging.proofs.RunsPaths.{Wrote, wrote, wrote_not, walking_start, walking_room, walking_both, walking_first, walking_second}
use Rattle.merging.proofs.RunsPaths.{walking_left, walking_right}
use Rattle.merging.proofs.runs.walk.Goals as goal
use Rattle.merging.proofs.runs.walk.Goals.{then-this-gt0, else-this-gt0, then-a-b, else-a-b+then-a-b-2, else-a-b+else-a-b-2}

pub loop-i-init : goal.loop-i-init
loop-i-init g c = search walking_start

pub bounds-into-n : goal.bounds-into-n
bounds-into-n g c = walking_room g.row.PLACES _ _ _ c.requires c.loop-i.invariant c.if-this-gt0.true c.loop-i-test.true

pub returns-else-j-other : goal.returns-else-j-other
returns-else-j-other g c = walking_right g.row.PLACES _ _ _ c.requires c.loop-i.invariant c.if-j-other.false

pub returns-after-loop-i : goal.returns-after-loop-i
returns-after-loop-i g c = walking_left g.row.PLACES _ _ _ c.requires c.loop-i.invariant c.loop-i-test.false

pub loop-i-preserved : goal.loop-i-preserved
loop-i-preserved g c =
    let l = c.loop-i in
    let one = c.args.one.now in
    let other = c.args.other.now in
    let put : Wrote g.row.PLACES l.into c.if-this-gt0.into l.n (min (get_or one l.i 0) (get_or other l.j 0)) =
    elim c.if-this-gt0.branch [
      | then-this-gt0 w ↦ rw (w.into-is, w.min.ensures) (wrote l.into l.n (min (get_or one l.i 0) (get_or other l.j 0)))
      | else-this-gt0 w ↦ rw w.into-is (wrote_not l.into l.n (min (get_or one l.i 0) (get_or other l.j 0)) w.if-this-gt0.false)
    ] in
    elim c.if-a-b.branch [
      | then-a-b w ↦ walking_both g.row.PLACES one other _ c.requires l.invariant c.loop-i-test.true c.if-j-other.true put w.if-a-b.true w.i-is w.j-is
      | else-a-b+then-a-b-2 w ↦
          walking_first g.row.PLACES one other _ c.requires l.invariant c.loop-i-test.true c.if-j-other.true put w.if-a-b-2.true w.i-is w.j-is
      | else-a-b+else-a-b-2 w ↦
          walking_second g.row.PLACES one other _ c.requires l.invariant c.loop-i-test.true c.if-j-other.true put w.if-a-b.false w.if-a-b-2.false w.i-is w.j-is
    ]
