-- `claims::lent::reply_in` meets its contract. Assumes nothing.
use Rattle.std.proofs.Common.{rules}
use Rattle.claims.proofs.LentPaths.{reply_refused, heard_end, heard_positions, reply_told}
use Rattle.claims.proofs.lent.reply_in.Goals as goal

pub returns-in_err-heard : goal.returns-in_err-heard
returns-in_err-heard c = search (rules, reply_refused)

pub overflow_add-end : goal.overflow_add-end
overflow_add-end c = search (rules, c.in_ok-heard.ensures, heard_end)

pub invariant_of-piece : goal.invariant_of-piece
invariant_of-piece c = record { positions = search (rules, c.in_ok-heard.ensures, heard_positions) }

pub returns : goal.returns
returns c = search (rules, c.in_ok-heard.ensures, reply_told)
