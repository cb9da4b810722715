-- `beats::beats::beat` meets its contract. Assumes nothing.
use Rattle.std.proofs.Common.{ap, not, rules}
use Rattle.keys.specs.Store.{Sized}
use Rattle.beats.proofs.BeatsPaths.{beat_1, beat_ordered}
use Rattle.beats.proofs.beats.beat.Goals as goal

pub returns-then-not-ordered : goal.returns-then-not-ordered
returns-then-not-ordered c = beat_1 _ _ c.ordered.ensures (ap not c.if-not-ordered.true)

pub returns : goal.returns
returns c =
    let sized : Sized c.args.node.now.store = search rules in
    beat_ordered _ _ c.ordered.ensures (ap not c.if-not-ordered.false) sized c.beat_in.ensures
