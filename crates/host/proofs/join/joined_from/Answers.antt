-- `join::joined_from` meets its contract. Assumes nothing.
use Rattle.std.proofs.Common.{refl}
use Rattle.std.proofs.lemmas.Result.{err_from_is_err_and}
use Rattle.keys.specs.Store.{zeros}
use Rattle.claims.proofs.RefusalLaws.{refusal_number_ne}
use Rattle.host.proofs.SavePaths.{known_by}
use Rattle.host.proofs.JoinPaths.{joined_first, joined_second, joined_both}
use Rattle.host.proofs.join.joined_from.Goals as goal

pub load-requires : goal.load-requires
unfolding zeros
load-requires c = refl

pub load-requires-2 : goal.load-requires-2
unfolding zeros
load-requires-2 c = refl

pub returns-in_err-own : goal.returns-in_err-own
returns-in_err-own c =
    let p = err_from_is_err_and c.from_residual.result c.from_residual.ensures.1 in
    rw (p.1, p.2) (joined_first _ _ c.requires c.in_err-own.ensures (refusal_number_ne c.in_err-own.field-0.0))

pub returns-in_err-brought : goal.returns-in_err-brought
returns-in_err-brought c =
    let p = err_from_is_err_and c.from_residual-in_err-brought.result c.from_residual-in_err-brought.ensures.1 in
    rw (p.1, p.2) (joined_second _ _ c.requires c.in_ok-own.ensures refl c.in_err-brought.ensures (refusal_number_ne c.in_err-brought.field-0.0))

pub returns : goal.returns
returns c = known_by _ _ (joined_both _ _ c.requires c.in_ok-own.ensures refl c.in_ok-brought.ensures refl c.join_in.ensures)
