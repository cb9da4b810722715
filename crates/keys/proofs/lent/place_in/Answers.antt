-- `keys::lent::place_in` meets its contract. Assumes nothing.
use Rattle.std.proofs.Common.{length, rules, ◌<◌, ◌≤◌}
use Rattle.keys.proofs.LentPaths.{place_lt, place_found}
use Rattle.keys.proofs.lent.place_in.Goals as goal

-- In each answer h says: there are keys to search, and the run has as many.

pub place_at-requires : goal.place_at-requires
place_at-requires c = let h : (0 < c.args.count) × (c.args.count ≤ length c.args.keys.now) = search rules in search place_lt

pub returns : goal.returns
returns c = let h : (0 < c.args.count) × (c.args.count ≤ length c.args.keys.now) = search rules in search place_found
