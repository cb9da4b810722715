-- `rehearsal::page::rehearse_text` meets its contract: one law for each way. Assumes nothing.
use Rattle.std.proofs.Common.{◌<◌, ◌≤◌, arith, refl}
use Rattle.claims.specs.Refusal.{refusal_number}
use Rattle.claims.proofs.RefusalLaws.{refusal_number_ne}
use Rattle.rehearsal.specs.Text.{lent_records}
use Rattle.rehearsal.proofs.PagePaths.{text_refused, told_fits, text_told}
use Rattle.rehearsal.proofs.page.rehearse_text.Goals as goal

pub lines-requires : goal.lines-requires
lines-requires c =
    let fits : c.in-Ok.told.deliveries ≤ lent_records = told_fits _ _ refl _ _ c.in-Ok.ensures refl in
    (omega arith, omega arith)

pub last-requires : goal.last-requires
last-requires c =
    let fits : c.in-Ok.told.deliveries ≤ lent_records = told_fits _ _ refl _ _ c.in-Ok.ensures refl in
    omega arith

pub returns-in-Ok : goal.returns-in-Ok
returns-in-Ok c = text_told _ _ refl _ _ c.in-Ok.ensures refl refl c.lines.ensures c.last.ensures

pub returns-in-Err : goal.returns-in-Err
returns-in-Err c =
    let small : refusal_number c.in-Err.refusal < 256 = omega arith in
    let put = rw c.number.ensures at c.put_refused.ensures in
    text_refused _ _ refl _ _ c.in-Err.ensures (refusal_number_ne _) _ _ _ c.told-out small put.0 put.1
