-- `claims::claim::judge` meets its contract: the questions 2 to 5, and then 16. Assumes nothing.
use Rattle.std.proofs.Common.{rules}
use Rattle.claims.proofs.ClaimPaths.{judged_former, judged_16, judged_0}
use Rattle.claims.proofs.claim.judge.Goals as goal

pub returns-in_err-judge_formerly : goal.returns-in_err-judge_formerly
returns-in_err-judge_formerly c = search (rules, judged_former)

pub returns-then-not-tells : goal.returns-then-not-tells
returns-then-not-tells c = search (rules, judged_16)

pub returns : goal.returns
returns c = search (rules, judged_0)
