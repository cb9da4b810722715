-- `round` meets its contract: a round on words of its own is the round, and so are the records that are stored of it. Assumes nothing.
use Rattle.std.proofs.Common.{List, arith, length, replicate, ◌*◌, ◌∙◌, ◌≡◌, ◌≤◌, ℕ}
use Rattle.std.proofs.Math.ListN.{length-replicate}
use Rattle.std.proofs.lemmas.Result.{err_from_is_err_and}
use Rattle.keys.specs.Store.{limit}
use Rattle.rule.specs.Call.{record_width, records_in}
use Rattle.rounds.proofs.LogLaws.{round_met, round_lent}
use Rattle.rounds.proofs.log.round.Goals as goal

-- the words of the round
abbrev blank : List ℕ
blank = replicate (2 * limit * record_width) 0

long : 2 * limit ≤ records_in blank
long = let e : length blank ≡ 2 * limit * record_width = length-replicate {A = ℕ} (2 * limit * record_width) 0 in omega arith

pub returns-in_err-deliveries-clause-told : goal.returns-in_err-deliveries-clause-told
returns-in_err-deliveries-clause-told c =
    let p = err_from_is_err_and c.from_residual.result c.from_residual.ensures.1 in
    rw (p.1, p.2) (round_met _ _ blank long _ _ c.in_err-deliveries.ensures.told)

pub returns-in_err-deliveries-clause-written : goal.returns-in_err-deliveries-clause-written
returns-in_err-deliveries-clause-written c = round_lent _ _ blank long _ _ c.in_err-deliveries.ensures.told _ c.in_err-deliveries.ensures.written

pub returns-clause-told : goal.returns-clause-told
returns-clause-told c = round_met _ _ blank long _ _ c.in_ok-deliveries.ensures.told

pub returns-clause-written : goal.returns-clause-written
returns-clause-written c = c.copy_out.ensures ∙ round_lent _ _ blank long _ _ c.in_ok-deliveries.ensures.told _ c.in_ok-deliveries.ensures.written
