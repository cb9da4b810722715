-- `rounds::log::round_front` meets its contract. Assumes nothing.
use Rattle.rounds.proofs.LogLaws.{front_met, front_lent}
use Rattle.rounds.proofs.log.round_front.Goals as goal

pub returns-clause-told : goal.returns-clause-told
returns-clause-told c = search front_met

pub returns-clause-written : goal.returns-clause-written
returns-clause-written c = search front_lent
