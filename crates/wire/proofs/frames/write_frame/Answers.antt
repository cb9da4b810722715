-- `frames::write_frame` meets its contract: one law for each way. Assumes nothing.
use Rattle.std.proofs.Common.{arith, length, ◌≡◌, Err}
use Rattle.rule.proofs.NodeLaws.{length_mapped}
use Rattle.wire.specs.Frame.{frame_limit}
use Rattle.wire.proofs.FramePaths.{write_frame_refused, write_frame_done}
use Rattle.wire.proofs.frames.write_frame.Goals as goal

pub returns-in_err-length : goal.returns-in_err-length
returns-in_err-length c =
    let refused : c.from_residual.result ≡ Err c.in_err-length.field-0.0 = grind arith in
    rw refused (write_frame_refused c.args.frame.claims c.args.frame.count c.args.out.now _ c.in_err-length.ensures.asked)

pub returns : goal.returns
returns c =
    let told = c.in_ok-length.ensures in
    let all : length c.args.frame.claims ≡ frame_limit = search length_mapped in
    write_frame_done c.args.frame.claims c.args.frame.count c.args.out.now all told.asked told.long.0 c.copy_from_slice.ensures.after c.write_run.ensures
