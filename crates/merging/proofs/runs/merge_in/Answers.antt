-- `merging::runs::merge_in` meets its contract. Assumes nothing.
use Rattle.std.proofs.Common.{rules}
use Rattle.merging.proofs.RunsPaths.{merge_none, merge_all}
use Rattle.merging.proofs.runs.merge_in.Goals as goal

pub returns-then-count-le2048 : goal.returns-then-count-le2048
returns-then-count-le2048 c = search (rules, merge_all)

pub returns-else-count-le2048 : goal.returns-else-count-le2048
returns-else-count-le2048 c = search (rules, merge_none)
