use Rattle.std.proofs.Common.{arith}
use Rattle.keys.proofs.SearchPaths.{narrowed_turn, narrowed_few}
use Rattle.keys.proofs.search.both_quartered.Goals as goal

pub loop-size-preserved : goal.loop-size-preserved
loop-size-preserved c = (
  narrowed_turn c.loop-size.invariant.0 c.loop-size-test.true _ _ _ (grind arith, grind arith, grind arith),
  narrowed_turn c.loop-size.invariant.1 c.loop-size-test.true _ _ _ (grind arith, grind arith, grind arith),
)

pub returns : goal.returns
returns c = (
  narrowed_few c.loop-size.invariant.0 c.loop-size-test.false c.found.result c.found.ensures,
  narrowed_few c.loop-size.invariant.1 c.loop-size-test.false c.found-2.result c.found-2.ensures,
)
