use Rattle.std.proofs.Common.{arith}
use Rattle.keys.proofs.PlaceLaws.{slice_rest}
use Rattle.keys.proofs.SearchPaths.{narrowed_turn, narrowed_few}
use Rattle.keys.proofs.search.quartered.Goals as goal

-- What the turn leaves is sought by tactics, here and in `both_quartered`: so an edit of the turn is refused by what it leaves, and not by how it is written.
pub loop-size-preserved : goal.loop-size-preserved
loop-size-preserved c = narrowed_turn c.loop-size.invariant c.loop-size-test.true _ _ _ (grind (arith, slice_rest), grind arith, grind arith)

pub returns : goal.returns
returns c = narrowed_few c.loop-size.invariant c.loop-size-test.false c.found.result c.found.ensures
