-- `transcript::flat::both_halves` meets its contract. Assumes nothing.
use Rattle.std.proofs.Common.{rules}
use Rattle.transcript.proofs.FlatPaths.{whole_fits, half_fits, both_lem}
use Rattle.transcript.proofs.flat.both_halves.Goals as goal

pub deliver_half-done-requires : goal.deliver_half-done-requires
deliver_half-done-requires c = search (rules, whole_fits)

pub deliver_half-requires : goal.deliver_half-requires
deliver_half-requires c = search (whole_fits, half_fits)

pub returns : goal.returns
returns c = search both_lem
