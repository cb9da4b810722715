-- `minutefrost_opening_cost` meets its contract. By search, which goes through whatever is made of the cost before it is told: so an edit that makes another
-- number of it is refused for that number. Assumes nothing.
use Rattle.std.proofs.Common.{rules}
use Rattle.host.proofs.CostPaths.{opening_small, opening_returned}
use Rattle.host.proofs.minutefrost_opening_cost.Goals as goal

pub told-requires : goal.told-requires
told-requires c = search (rules, opening_small c.args.keys)

pub returns : goal.returns
returns c = search (rules, opening_returned c.args.keys)
