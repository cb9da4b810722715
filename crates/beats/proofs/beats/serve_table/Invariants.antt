-- `beats::beats::serve_table` meets its contract. The invariant: what is left of the table computes what comes out. Assumes nothing.
use Rattle.keys.specs.Lent.{store_by}
use Rattle.beats.proofs.BeatsPaths.{Left}
use Rattle.beats.proofs.beats.serve_table.Given as goal

abbrev pub invariant-loop-claim : goal.invariant-loop-claim
invariant-loop-claim l =
    Left (store_by l.store.keys.now l.store.sums.now l.store.count) l.fn.pending.claims l.fn.pending.count l.at l.initial.lent
    l.claim-index l.left l.written l.lent l.kept.count l.kept.claims
