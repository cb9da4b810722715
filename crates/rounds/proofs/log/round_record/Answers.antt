-- `round_record` meets its contract. Assumes nothing.
use Rattle.std.proofs.Common.{◌*◌, refl}
use Rattle.std.proofs.lemmas.Result.{err_from_is_err_and}
use Rattle.keys.specs.Store.{limit}
use Rattle.claims.proofs.RefusalLaws.{refusal_number_above}
use Rattle.rounds.proofs.LogLaws.{recorded_is, recorded_refused}
use Rattle.rounds.proofs.log.round_record.Goals as goal

pub returns-in_err-deliveries : goal.returns-in_err-deliveries
returns-in_err-deliveries c =
    let p = err_from_is_err_and c.from_residual.result c.from_residual.ensures.1 in
    rw (p.1, p.2) (recorded_refused _ _ _ (2 * limit) refl _ c.in_err-deliveries.ensures.told (refusal_number_above _))

pub returns : goal.returns
returns c = recorded_is _ _ _ (2 * limit) refl _ c.in_ok-deliveries.ensures.told _ c.in_ok-deliveries.ensures.written _ c.get-delivery.ensures
