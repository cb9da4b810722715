-- `read` of a claim meets its contract: four numbers, each read at its place. Assumes nothing.
use Rattle.std.proofs.Common.{arith, lit≤, ◌*◌, ◌+◌}
use Rattle.wire.specs.Claim.{key_width, count_width}
use Rattle.wire.proofs.NumberLaws.{number_at_below}
use Rattle.wire.proofs.ClaimLaws.{claim_from_at}
use Rattle.wire.proofs.claim.ClaimLaid.read.Goals as goal

pub overflow_cast-result : goal.overflow_cast-result
overflow_cast-result c =
    let a = c.args in
    let small = number_at_below a.s.now (a.at + 3 * key_width) count_width count_width (lit≤ tt) (λ k. (c.type_inv.s k).fits) in
    omega (arith, c.read-4.ensures)

pub returns : goal.returns
returns c = search claim_from_at
