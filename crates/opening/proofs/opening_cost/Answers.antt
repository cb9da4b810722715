-- `opening_cost` meets its contract: 17 beyond the limit, and the cost up to it. Assumes nothing.
use Rattle.opening.proofs.CallLaws.{costed_yes, costed_no}
use Rattle.opening.proofs.opening_cost.Goals as goal

pub returns-then-n-gt-LIMIT : goal.returns-then-n-gt-LIMIT
returns-then-n-gt-LIMIT c = search costed_no

pub returns : goal.returns
returns c = search costed_yes
