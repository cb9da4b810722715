use Rattle.std.proofs.Common.{arith, ◌*◌, ◌/◌}
use Rattle.keys.proofs.SearchPaths.{passed_is, far_turn}
use Rattle.keys.proofs.search.far_both.Goals as goal

pub loop-size-preserved : goal.loop-size-preserved
loop-size-preserved c =
    let width = c.loop-size.size / 4 in (
      far_turn c.loop-size.invariant.0 (omega arith) (width * c.reached-below.result)
          (passed_is _ c.args.lo width c.reached-below.result c.reached-below.ensures.0),
      far_turn c.loop-size.invariant.1 (omega arith) (width * c.reached-above.result)
          (passed_is _ c.args.hi width c.reached-above.result c.reached-above.ensures.0),
    )
