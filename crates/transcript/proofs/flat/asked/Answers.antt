-- `transcript::flat::asked` meets its contract. Assumes nothing.
use Rattle.transcript.proofs.FlatPaths.{lent_summed, found_few, asked_8, asked_9, asked_0}
use Rattle.transcript.proofs.flat.asked.Goals as goal

pub shared_ref_as_front-union_count_in : goal.shared_ref_as_front-union_count_in
shared_ref_as_front-union_count_in c = search (found_few, lent_summed)

pub shared_ref_as_front-union_count_in-2 : goal.shared_ref_as_front-union_count_in-2
shared_ref_as_front-union_count_in-2 c = search (found_few, lent_summed)

pub returns-then-n-gt-LIMIT : goal.returns-then-n-gt-LIMIT
returns-then-n-gt-LIMIT c = search (asked_8, lent_summed)

pub returns-then-records-n : goal.returns-then-records-n
returns-then-records-n c = search (asked_9, lent_summed)

pub returns : goal.returns
returns c = search (asked_0, lent_summed)
