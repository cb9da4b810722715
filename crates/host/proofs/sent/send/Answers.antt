-- `sent::send` meets its contract: the beat, then the image, then the frames. Assumes nothing.
use Rattle.std.proofs.Common.{List, Ok, Err, ap, length, sym, ℕ, ◌∙◌}
use Rattle.keys.specs.Place.{put_at}
use Rattle.claims.proofs.RefusalLaws.{refusal_number_ne}
use Rattle.rule.specs.declared.node.Node.{Node}
use Rattle.wire.specs.Answer.{Length}
use Rattle.wire.specs.Image.{node_bytes}
use Rattle.host.specs.Frames.{frames_bytes}
use Rattle.host.proofs.SavePaths.{write_image_in_room}
use Rattle.host.proofs.SentPaths.{beat_of}
use Rattle.host.proofs.sent.send.Goals as goal

pub returns-in_err-written : goal.returns-in_err-written
returns-in_err-written c =
    let beat = beat_of _ _ _ c.requires.long c.requires.ordered _ c.resum_in.ensures _ (Err c.in_err-written.field-0.0) _ c.in_err-written.ensures in
    absurd (refusal_number_ne c.in_err-written.field-0.0 beat.none)

pub returns-in_err-write_image_in : goal.returns-in_err-write_image_in
returns-in_err-write_image_in c =
    let beat = beat_of _ _ _ c.requires.long c.requires.ordered _ c.resum_in.ensures _ (Ok c.in_ok-written.written) _ c.in_ok-written.ensures in
    let room = (write_image_in_room _ beat.shaped beat.ordered c.args.out.now c.requires.image).0 in
    absurd (refusal_number_ne c.in_err-write_image_in.field-0.0 (ap (λ (x : Length). x.number) (c.in_err-write_image_in.ensures.0 ∙ sym room)))

pub write_frames-requires : goal.write_frames-requires
write_frames-requires c =
    let beat = beat_of _ _ _ c.requires.long c.requires.ordered _ c.resum_in.ensures _ (Ok c.in_ok-written.written) _ c.in_ok-written.ensures in
    beat.given (length c.args.frames.now) c.requires.frames

pub returns : goal.returns
returns c =
    let beat = beat_of _ _ _ c.requires.long c.requires.ordered _ c.resum_in.ensures _ (Ok c.in_ok-written.written) _ c.in_ok-written.ensures in
    let written = (write_image_in_room _ beat.shaped beat.ordered c.args.out.now c.requires.image).1 in
    let sent = ap frames_bytes beat.sent in
    record {
      size = ap Ok (c.write_frames.ensures.size ∙ ap length sent);
      most = beat.most;
      left = c.in_ok-write_image_in.ensures.1 ∙ (sym written ∙ ap (λ (m : Node). put_at c.args.out.now 0 (node_bytes m)) beat.served);
      sent = c.write_frames.ensures.frames ∙ ap (λ (bs : List ℕ). put_at c.args.frames.now 0 bs) sent;
    }
