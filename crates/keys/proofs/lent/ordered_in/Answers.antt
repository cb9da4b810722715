-- `keys::lent::ordered_in` meets its contract. Assumes nothing.
use Rattle.keys.proofs.LentPaths.{ordered_long, ordered_short, ordered_not, ordered_all_zero}
use Rattle.keys.proofs.lent.ordered_in.Goals as goal

pub returns-then-count-gt-LIMIT : goal.returns-then-count-gt-LIMIT
returns-then-count-gt-LIMIT c = search ordered_long

pub returns-then-keys-count : goal.returns-then-keys-count
returns-then-keys-count c = search ordered_short

pub returns-then-not-rising : goal.returns-then-not-rising
returns-then-not-rising c = search ordered_not

pub returns : goal.returns
returns c = search ordered_all_zero
