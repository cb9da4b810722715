-- `nodes::joining::join_in` meets its contract. Assumes nothing.
use Rattle.nodes.proofs.JoiningPaths.{join_eight, join_done}
use Rattle.nodes.proofs.joining.join_in.Goals as goal

pub returns-then-held-gt-LIMIT : goal.returns-then-held-gt-LIMIT
returns-then-held-gt-LIMIT c = search join_eight

pub returns : goal.returns
returns c = search join_done
