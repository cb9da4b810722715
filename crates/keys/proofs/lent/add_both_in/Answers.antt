-- `keys::lent::add_both_in` meets its contract. Assumes nothing.
use Rattle.keys.proofs.LentPaths.{place_le, both_one, both_two}
use Rattle.keys.proofs.lent.add_both_in.Goals as goal

pub returns-then-lo-hi : goal.returns-then-lo-hi
returns-then-lo-hi c = search both_one

pub add_two-requires : goal.add_two-requires
add_two-requires c = search place_le

pub returns : goal.returns
returns c = search both_two
