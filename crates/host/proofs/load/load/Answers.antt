-- `load::load` meets its contract. Assumes nothing.
use Rattle.std.proofs.Common.{arith, length-take}
use Rattle.std.proofs.lemmas.Result.{err_from_is_err_and}
use Rattle.claims.proofs.RefusalLaws.{refusal_number_ne}
use Rattle.host.proofs.LibPaths.{loaded_part, loaded_admitted, loaded_none}
use Rattle.host.proofs.SavePaths.{known_by}
use Rattle.host.proofs.load.load.Goals as goal

pub returns-in_err-read : goal.returns-in_err-read
returns-in_err-read c =
    let p = err_from_is_err_and c.from_residual.result c.from_residual.ensures.1 in rw (p.1, p.2)
    (loaded_none _ c.requires c.in_err-read.ensures.0 c.in_err-read.ensures.1 (refusal_number_ne c.in_err-read.field-0.0) c.read_image_in.array_long)

pub shared_ref_as_front-admit_in : goal.shared_ref_as_front-admit_in
shared_ref_as_front-admit_in c =
    let part = loaded_part _ c.requires c.in_ok-read.ensures.0 c.in_ok-read.ensures.1 c.read_image_in.array_long in
    let long = c.read_image_in.array_long in
    omega (arith, part, length-take c.in_ok-read.read.held c.read_image_in.new.keys)

pub returns : goal.returns
returns c =
    known_by _ c.admit_in.result
    (loaded_admitted _ c.requires c.in_ok-read.ensures.0 c.in_ok-read.ensures.1 c.admit_in.ensures c.read_image_in.array_long)
