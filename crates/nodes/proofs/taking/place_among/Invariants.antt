-- `nodes::taking::place_among` meets its contract. The invariant: halving what is left gives what halving all of it gives. Assumes nothing.
use Rattle.std.proofs.Common.{length, ◌+◌, ◌≡◌, ◌≤◌}
use Rattle.nodes.specs.Lent.{halved_to, place_among}
use Rattle.nodes.proofs.taking.place_among.Given as goal

abbrev pub invariant-loop-size : goal.invariant-loop-size
invariant-loop-size l =
    (l.base + l.size ≤ length l.claims) × (place_among l.claim l.claims ≡ halved_to l.size l.claims l.claim l.base l.size)

abbrev pub decreases-loop-size : goal.decreases-loop-size
decreases-loop-size l =
    l.size
