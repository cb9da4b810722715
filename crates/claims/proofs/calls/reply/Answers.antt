-- `claims::calls::reply` meets its contract. Assumes nothing.
use Rattle.std.proofs.Common.{◌≡◌, Err, arith, rules}
use Rattle.claims.proofs.CallsPaths.{replied_1, replied_refused, replied_told}
use Rattle.claims.proofs.calls.reply.Goals as goal

pub returns-in_err-ordered : goal.returns-in_err-ordered
returns-in_err-ordered c = search (rules, replied_1)

pub returns-in_err-told : goal.returns-in_err-told
returns-in_err-told c =
    let refused : c.from_residual-in_err-told.result ≡ Err c.in_err-told.field-0.0 = grind arith in
    rw refused (search (rules, c.in_ok-ordered.ensures, c.in_err-told.ensures, replied_refused))

pub returns : goal.returns
returns c = search (rules, c.in_ok-ordered.ensures, c.in_ok-told.ensures, replied_told)
