-- `keys::lent::resum_in` meets its contract. Assumes nothing.
use Rattle.keys.proofs.LentPaths.{resum_none, resum_short, resum_long, resum_all}
use Rattle.keys.proofs.lent.resum_in.Goals as goal

pub returns-then-count-first : goal.returns-then-count-first
returns-then-count-first c = search resum_none

pub returns-then-keys-count : goal.returns-then-keys-count
returns-then-keys-count c = search resum_short

pub returns-then-count-gt-LIMIT : goal.returns-then-count-gt-LIMIT
returns-then-count-gt-LIMIT c = search resum_long

pub returns : goal.returns
returns c = search resum_all
