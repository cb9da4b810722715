-- `claims::calls::make` meets its contract. Assumes nothing.
use Rattle.std.proofs.Common.{rules}
use Rattle.claims.proofs.CallsPaths.{made_1, made_made}
use Rattle.claims.proofs.calls.make.Goals as goal

pub returns-in_err-ordered : goal.returns-in_err-ordered
returns-in_err-ordered c = search (rules, made_1)

pub returns : goal.returns
returns c = search (rules, c.in_ok-ordered.ensures, made_made)
