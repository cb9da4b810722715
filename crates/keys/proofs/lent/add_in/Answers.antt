-- `keys::lent::add_in` meets its contract. Assumes nothing.
use Rattle.std.proofs.Common.{rules}
use Rattle.keys.proofs.LentPaths.{place_le, add_full, add_room}
use Rattle.keys.proofs.lent.add_in.Goals as goal

pub returns-then-more-count : goal.returns-then-more-count
returns-then-more-count c = search add_full

pub put_in-requires : goal.put_in-requires
put_in-requires c = search (rules, place_le)

pub returns : goal.returns
returns c = search add_room
