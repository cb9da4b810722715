-- `nodes::joining::append` meets its contract. Assumes nothing.
use Rattle.nodes.proofs.JoiningPaths.{appended}
use Rattle.nodes.proofs.joining.append.Goals as goal

pub returns : goal.returns
returns c = rw c.copy_from_slice.ensures.after (appended _ _ _ c.min-more.ensures c.requires)
