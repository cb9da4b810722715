-- `frames::read_frame` meets its contract: one law for each way. Assumes nothing.
use Rattle.std.proofs.Common.{arith, ◌≡◌, Err}
use Rattle.wire.proofs.FramePaths.{read_frame_head, head_places, head_room, read_places, read_frame_13, read_frame_done}
use Rattle.wire.proofs.frames.read_frame.Goals as goal

pub returns-in_err-count : goal.returns-in_err-count
returns-in_err-count c =
    let refused : c.from_residual.result ≡ Err c.in_err-count.field-0.0 = grind arith in
    rw refused (read_frame_head c.args.bytes.now _ c.in_err-count.ensures.asked)

pub slice_bounds-read_run-end : goal.slice_bounds-read_run-end
slice_bounds-read_run-end c = let h = c.in_ok-count.ensures in head_places c.args.bytes.now h.asked h.count

pub read_run-requires : goal.read_run-requires
read_run-requires c = let h = c.in_ok-count.ensures in head_room c.args.bytes.now h.asked h.count

pub slice_bounds-all_pass-end : goal.slice_bounds-all_pass-end
slice_bounds-all_pass-end c = let h = c.in_ok-count.ensures in read_places c.args.bytes.now h.asked h.count c.read_run.ensures

pub returns-then-not-all_pass : goal.returns-then-not-all_pass
returns-then-not-all_pass c =
    let h = c.in_ok-count.ensures in
    read_frame_13 c.args.bytes.now h.asked h.count c.read_run.ensures c.if-not-all_pass.ensures

pub returns : goal.returns
returns c =
    let h = c.in_ok-count.ensures in
    read_frame_done c.args.bytes.now h.asked h.count c.read_run.ensures c.if-not-all_pass.ensures
