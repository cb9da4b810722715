-- `sent::write_at` meets its contract: the frame is written to the part of the buffer from the place on. Assumes nothing.
use Rattle.std.proofs.Common.{arith, refl}
use Rattle.host.proofs.SentPaths.{frame_written, frame_length_lem, frame_put}
use Rattle.host.proofs.sent.write_at.Goals as goal

pub unwrap-written-requires : goal.unwrap-written-requires
unwrap-written-requires c =
    let (many, pass, room) = c.requires in
    rw (frame_written c.args.frames.now c.args.at c.args.frame.count c.args.frame.claims many pass room c.write_frame.ensures.0) refl

pub overflow_add-result : goal.overflow_add-result
overflow_add-result c =
    let (many, pass, room) = c.requires in
    let e = frame_length_lem c.args.frames.now c.args.at c.args.frame.count c.args.frame.claims many pass room c.write_frame.ensures.0 c.unwrap-written.ensures in
    omega arith

pub returns : goal.returns
returns c =
    let (many, pass, room) = c.requires in
    let e = frame_length_lem c.args.frames.now c.args.at c.args.frame.count c.args.frame.claims many pass room c.write_frame.ensures.0 c.unwrap-written.ensures in
    (omega arith, frame_put c.args.frames.now c.args.at c.args.frame.count c.args.frame.claims many pass room c.write_frame.ensures.1)
