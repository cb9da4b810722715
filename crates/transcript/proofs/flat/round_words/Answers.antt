-- `transcript::flat::round_words` meets its contract: refused, or both halves. Assumes nothing.
use Rattle.std.proofs.Common.{refl}
use Rattle.std.proofs.lemmas.Result.{err_from_is_err_and}
use Rattle.claims.proofs.RefusalLaws.{refusal_number_above}
use Rattle.transcript.proofs.FlatPaths.{met_not, words_not, met_round, words_round}
use Rattle.transcript.proofs.flat.round_words.Goals as goal

pub returns-in_err-asked-clause-told : goal.returns-in_err-asked-clause-told
returns-in_err-asked-clause-told c =
    let p = err_from_is_err_and c.from_residual.result c.from_residual.ensures.1 in
    let sized = c.asked.ensures.sized in
    rw (p.1, p.2) (met_not _ _ sized.0 sized.1 _ _ c.in_err-asked.ensures.told (refusal_number_above _))

pub returns-in_err-asked-clause-written : goal.returns-in_err-asked-clause-written
returns-in_err-asked-clause-written c =
    let sized = c.asked.ensures.sized in
    words_not _ _ sized.0 sized.1 _ _ c.in_err-asked.ensures.told (refusal_number_above _)

pub returns-clause-told : goal.returns-clause-told
returns-clause-told c =
    let sized = c.asked.ensures.sized in
    met_round _ _ sized.0 sized.1 _ 0 c.in_ok-asked.ensures.told refl _ _ _ _ c.both_halves.ensures

pub returns-clause-written : goal.returns-clause-written
returns-clause-written c =
    let sized = c.asked.ensures.sized in
    words_round _ _ sized.0 sized.1 _ 0 c.in_ok-asked.ensures.told refl _ _ _ _ c.both_halves.ensures
