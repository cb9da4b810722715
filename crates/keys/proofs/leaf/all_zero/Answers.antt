-- `keys::leaf::all_zero` meets its contract. Assumes nothing.
use Rattle.std.proofs.Common.{rules, bit_or, fold, ◌≡◌}
use Rattle.std.proofs.iter.runs.Made.{chains}
use Rattle.keys.proofs.LeafPaths.{zero_all}
use Rattle.keys.proofs.leaf.all_zero.Goals as goal

pub returns : goal.returns
returns c =
    let folded : c.fold.result ≡ fold bit_or 0 c.args.places.now = search (rules, chains) in
    zero_all c.args.places.now c.fold.result folded
