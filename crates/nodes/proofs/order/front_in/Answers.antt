-- `nodes::order::front_in` meets its contract. Assumes nothing.
use Rattle.nodes.proofs.OrderPaths.{front_store, front_pending}
use Rattle.nodes.proofs.order.front_in.Goals as goal

pub returns-then-not-ordered_in : goal.returns-then-not-ordered_in
returns-then-not-ordered_in c = search front_store

pub returns : goal.returns
returns c = search front_pending
