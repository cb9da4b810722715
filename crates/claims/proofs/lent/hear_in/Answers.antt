-- `claims::lent::hear_in` meets its contract. Assumes nothing.
use Rattle.std.proofs.Common.{rules}
use Rattle.claims.proofs.LentPaths.{heard_judged, heard_unfit, ends_rise, third_told, heard_ends, third_grows, third_room, heard_third}
use Rattle.claims.proofs.lent.hear_in.Goals as goal

pub returns-in_err-judge : goal.returns-in_err-judge
returns-in_err-judge c = search (rules, heard_judged)

pub returns-in_err-ends : goal.returns-in_err-ends
returns-in_err-ends c = search (rules, c.in_ok-judge.ensures, heard_unfit)

pub tells_third-requires : goal.tells_third-requires
tells_third-requires c = search (rules, c.in_ok-judge.ensures, ends_rise, third_told)

pub returns-then-not-tells_third : goal.returns-then-not-tells_third
returns-then-not-tells_third c = search (rules, c.in_ok-judge.ensures, heard_ends)

pub overflow_sub-result : goal.overflow_sub-result
overflow_sub-result c = search (rules, c.in_ok-judge.ensures, third_grows)

pub overflow_add-result : goal.overflow_add-result
overflow_add-result c = search (rules, c.in_ok-judge.ensures, third_room)

pub returns : goal.returns
returns c = search (rules, c.in_ok-judge.ensures, heard_third)
