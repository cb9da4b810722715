-- `rehearsal::run::rehearse` meets its contract: one law for each way. The first image ends within the input (`front_fits`). Assumes nothing.
use Rattle.std.proofs.Common.{refl, rules}
use Rattle.std.proofs.lemmas.Result.{err_from_is_err_and}
use Rattle.claims.proofs.RefusalLaws.{refusal_number_ne}
use Rattle.rehearsal.proofs.RunPaths.{front_refused, front_fits, first_refused, second_refused, round_refused, round_done}
use Rattle.rehearsal.proofs.run.rehearse.Goals as goal

pub returns-in_err-n : goal.returns-in_err-n
returns-in_err-n c =
    let p = err_from_is_err_and c.from_residual.result c.from_residual.ensures.1 in
    rw (p.1, p.2) (front_refused _ _ _ c.in_err-n.ensures (refusal_number_ne _))

pub slice_bounds-read_image-end : goal.slice_bounds-read_image-end
slice_bounds-read_image-end c =
    let fits = front_fits _ _ c.in_ok-n.ensures refl in
    search rules

pub returns-in_err-left : goal.returns-in_err-left
returns-in_err-left c =
    let p = err_from_is_err_and c.from_residual-in_err-left.result c.from_residual-in_err-left.ensures.1 in
    rw (p.1, p.2) (first_refused _ _ _ c.in_ok-n.ensures refl _ c.in_err-left.ensures (refusal_number_ne _))

pub slice_bounds-read_image-count : goal.slice_bounds-read_image-count
slice_bounds-read_image-count c = front_fits _ _ c.in_ok-n.ensures refl

pub slice_bounds-read_image-start : goal.slice_bounds-read_image-start
slice_bounds-read_image-start c = front_fits _ _ c.in_ok-n.ensures refl

pub returns-in_err-right : goal.returns-in_err-right
returns-in_err-right c =
    let p = err_from_is_err_and c.from_residual-in_err-right.result c.from_residual-in_err-right.ensures.1 in
    rw (p.1, p.2) (second_refused _ _ _ c.in_ok-n.ensures refl _ c.in_ok-left.ensures refl _ c.in_err-right.ensures (refusal_number_ne _))

pub returns-in_err-deliveries : goal.returns-in_err-deliveries
returns-in_err-deliveries c =
    let p = err_from_is_err_and c.from_residual-in_err-deliveries.result c.from_residual-in_err-deliveries.ensures.1 in
    let told = c.in_err-deliveries.ensures.told in
    let written = c.in_err-deliveries.ensures.written in
    rw (p.1, p.2)
    (round_refused _ _ _ c.in_ok-n.ensures refl _ c.in_ok-left.ensures refl _ c.in_ok-right.ensures refl _ _ told written (refusal_number_ne _))

pub returns : goal.returns
returns c =
    let told = c.in_ok-deliveries.ensures.told in
    let written = c.in_ok-deliveries.ensures.written in
    round_done _ _ _ c.in_ok-n.ensures refl _ c.in_ok-left.ensures refl _ c.in_ok-right.ensures refl _ _ told written refl
