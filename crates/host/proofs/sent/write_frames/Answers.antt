-- `sent::write_frames` meets its contract. Assumes nothing.
use Rattle.std.proofs.Common.{length, ◌∙◌, ◌/◌}
use Rattle.claims.specs.Words.{claim_width}
use Rattle.wire.proofs.FrameLaws.{take_four_of}
use Rattle.wire.proofs.RunLaws.{length_read_run}
use Rattle.host.specs.Frames.{in_words, claims_in}
use Rattle.host.proofs.SentPaths.{chunk_of, ahead_all, ahead_none, chunk_few, chunk_countable, chunk_pass, chunk_room, chunk_turn}
use Rattle.host.proofs.sent.write_frames.Goals as goal

pub loop-four-init : goal.loop-four-init
loop-four-init c =
    let made = c.into_iter-four-iterator.ensures.into_iter_gives in
    (rw made c.chunks-four-items.ensures.size, rw (made, c.chunks-four-items.ensures.rest) (ahead_all _ _ _ c.requires.long c.requires.pass))

pub frame_of-requires : goal.frame_of-requires
frame_of-requires c =
    let (size, a) = c.loop-four.invariant in
    let chunk = chunk_of size c.in-Some.ensures.steps.1 in
    (chunk_few a chunk, chunk_pass a chunk)

pub write_at-at-requires : goal.write_at-at-requires
write_at-at-requires c =
    let (size, a) = c.loop-four.invariant in
    let chunk = chunk_of size c.in-Some.ensures.steps.1 in
    let (claims, many) = c.frame_of.ensures in
    let group = take_four_of (claims_in c.in-Some.four.now) (length c.in-Some.four.now / claim_width) (length_read_run in_words (length c.in-Some.four.now / claim_width) c.in-Some.four.now) in
    (rw many (chunk_countable a chunk), rw (claims, many, group) (chunk_pass a chunk), rw many (chunk_room a chunk c.requires.fits))

pub loop-four-preserved : goal.loop-four-preserved
loop-four-preserved c =
    let (size, a) = c.loop-four.invariant in
    let chunk = chunk_of size c.in-Some.ensures.steps.1 in
    let (claims, many) = c.frame_of.ensures in
    let group = take_four_of (claims_in c.in-Some.four.now) (length c.in-Some.four.now / claim_width) (length_read_run in_words (length c.in-Some.four.now / claim_width) c.in-Some.four.now) in
    let (next, written) = c.write_at-at.ensures in
    (c.in-Some.ensures.steps.0 ∙ size, chunk_turn a chunk c.requires.fits (next ∙ rw many) (written ∙ rw (claims, many, group)))

pub returns : goal.returns
returns c = ahead_none c.loop-four.invariant.1 c.in-None.ensures.steps.1.0
