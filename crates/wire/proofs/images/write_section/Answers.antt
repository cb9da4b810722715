-- `images::write_section` meets its contract. Assumes nothing.
use Rattle.std.proofs.Common.{arith, length, ◌+◌, ◌≤◌}
use Rattle.wire.specs.Claim.{count_width}
use Rattle.wire.proofs.ImagePaths.{section_put}
use Rattle.wire.proofs.images.write_section.Goals as goal

pub returns : goal.returns
returns g c =
    let a = c.args in
    let room : a.at + count_width ≤ length a.out.now = omega arith in
    section_put g.T.Laid.layout a.out.now a.at a.things.now room c.write.ensures c.write_run.ensures
