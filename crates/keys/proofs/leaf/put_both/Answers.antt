-- `keys::leaf::put_both` meets its contract. Assumes nothing.
use Rattle.std.proofs.Common.{arith, ◌∙◌}
use Rattle.keys.proofs.PuttingLaws.{moved_within, moved_both}
use Rattle.keys.proofs.leaf.put_both.Goals as goal

pub returns : goal.returns
returns c =
    let a = c.args in
    let moved = moved_within 2 a.keys.now a.count a.places.upper.at (omega arith) (omega arith) in
    let both = moved_both 0 a.keys.now _ a.places.lower.at a.places.upper.at a.count a.lo a.hi (omega arith) (omega arith) (omega arith) moved in
    c.put.ensures ∙ (rw c.copy_within.ensures.after both)
