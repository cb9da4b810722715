-- `claims::calls::enter` meets its contract. Assumes nothing.
use Rattle.std.proofs.Common.{◌≡◌, Some, arith, rules}
use Rattle.claims.proofs.CallsPaths.{entered_1, entered_unfit, entered_fit}
use Rattle.claims.proofs.calls.enter.Goals as goal

pub returns-in_err-ordered : goal.returns-in_err-ordered
returns-in_err-ordered c = search (rules, entered_1)

pub returns-in_err-added : goal.returns-in_err-added
returns-in_err-added c = search (rules, c.in_ok-ordered.ensures, entered_unfit)

pub returns : goal.returns
returns c =
    let some : c.add_in.result ≡ Some c.in_ok-added.added = grind arith in
    search (rules, c.in_ok-ordered.ensures, entered_fit)
