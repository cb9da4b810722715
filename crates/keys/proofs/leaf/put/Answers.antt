-- `keys::leaf::put` meets its contract. Assumes nothing.
use Rattle.std.proofs.Common.{arith}
use Rattle.keys.proofs.PuttingLaws.{moved_within, moved_put}
use Rattle.keys.proofs.leaf.put.Goals as goal

pub returns : goal.returns
returns c =
    let a = c.args in
    rw c.copy_within.ensures.after
    (moved_put a.keys.now _ a.count a.at a.key (omega arith) (omega arith) (moved_within 1 a.keys.now a.count a.at (omega arith) (omega arith)))
