-- `keys::lent::far_place` meets its contract. Assumes nothing.
use Rattle.std.proofs.Common.{arith}
use Rattle.keys.proofs.LentPaths.{place_none, place_short, place_lt, place_found}
use Rattle.keys.proofs.lent.far_place.Goals as goal
use Rattle.keys.proofs.lent.far_place.Goals.{then-count-eq0-via-then-count-eq0, then-count-eq0-via-else-count-eq0+then-keys-count}

pub returns-then-count-eq0 : goal.returns-then-count-eq0
returns-then-count-eq0 c =
    let a = c.args in
    elim c.then-count-eq0.branch [
      | then-count-eq0-via-then-count-eq0 w ↦ place_none a.keys.now a.count a.key w.if-count-eq0.true
      | then-count-eq0-via-else-count-eq0+then-keys-count w ↦ place_short a.keys.now a.count a.key w.if-count-eq0.false w.if-keys-count.true
    ]

pub place_at-requires : goal.place_at-requires
place_at-requires c = let a = c.args in place_lt a.keys.now a.count a.key (omega arith) (omega arith) c.far.result c.far.ensures

pub returns : goal.returns
returns c =
    let a = c.args in
    place_found a.keys.now a.count a.key (omega arith) (omega arith) c.far.result c.far.ensures c.place_at.result c.place_at.ensures
