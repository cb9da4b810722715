-- `keys::lent::summed_in` meets its contract. Assumes nothing.
use Rattle.std.proofs.Common.{sym}
use Rattle.keys.proofs.LentPaths.{summed_order, summed_many, summed_short, summed_lengths, summed_wrong, summed_zeros}
use Rattle.keys.proofs.lent.summed_in.Goals as goal

pub returns-then-not-ordered_in : goal.returns-then-not-ordered_in
returns-then-not-ordered_in c = search summed_order

pub returns-then-sums-count : goal.returns-then-sums-count
returns-then-sums-count c = search summed_short

pub slice_bounds-summed-end : goal.slice_bounds-summed-end
slice_bounds-summed-end c = sym (search summed_many)

pub summed-requires : goal.summed-requires
summed-requires c = search summed_lengths

pub returns-then-not-summed : goal.returns-then-not-summed
returns-then-not-summed c = search summed_wrong

pub returns : goal.returns
returns c = search summed_zeros
