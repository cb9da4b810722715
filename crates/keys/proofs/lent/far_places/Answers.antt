-- `keys::lent::far_places` meets its contract. Assumes nothing.
use Rattle.std.proofs.Common.{arith}
use Rattle.keys.proofs.LentPaths.{place_none, place_short, place_lt, place_found}
use Rattle.keys.proofs.lent.far_places.Goals as goal
use Rattle.keys.proofs.lent.far_places.Goals.{then-count-eq0-via-then-count-eq0, then-count-eq0-via-else-count-eq0+then-keys-count}

pub returns-then-count-eq0 : goal.returns-then-count-eq0
returns-then-count-eq0 c =
    let a = c.args in
    elim c.then-count-eq0.branch [
      | then-count-eq0-via-then-count-eq0 w ↦ (
        place_none a.keys.now a.count a.lo w.if-count-eq0.true,
        place_none a.keys.now a.count a.hi w.if-count-eq0.true,
      )
      | then-count-eq0-via-else-count-eq0+then-keys-count w ↦ (
        place_short a.keys.now a.count a.lo w.if-count-eq0.false w.if-keys-count.true,
        place_short a.keys.now a.count a.hi w.if-count-eq0.false w.if-keys-count.true,
      )
    ]

pub place_at-requires : goal.place_at-requires
place_at-requires c =
    let a = c.args in
    let found = c.far_both-found in
    place_lt a.keys.now a.count a.lo (omega arith) (omega arith) found.result.lower found.ensures.0

pub place_at-requires-2 : goal.place_at-requires-2
place_at-requires-2 c =
    let a = c.args in
    let found = c.far_both-found in
    place_lt a.keys.now a.count a.hi (omega arith) (omega arith) found.result.upper found.ensures.1

pub returns : goal.returns
returns c =
    let a = c.args in
    let found = c.far_both-found in (
      place_found a.keys.now a.count a.lo (omega arith) (omega arith) found.result.lower found.ensures.0 c.place_at.result c.place_at.ensures,
      place_found a.keys.now a.count a.hi (omega arith) (omega arith) found.result.upper found.ensures.1 c.place_at-2.result c.place_at-2.ensures,
    )
