use Rattle.std.proofs.Common.{arith, ◌*◌, ◌/◌}
use Rattle.keys.proofs.SearchPaths.{passed_is, far_turn}
use Rattle.keys.proofs.search.far.Goals as goal

pub loop-size-preserved : goal.loop-size-preserved
loop-size-preserved c =
    let width = c.loop-size.size / 4 in
    far_turn c.loop-size.invariant (omega arith) (width * c.reached-up.result) (passed_is _ c.args.key width c.reached-up.result c.reached-up.ensures.0)
