-- `sent::write_frames` meets its contract. The invariant: what is left to write makes up the whole. Assumes nothing.
use Rattle.std.proofs.Common.{◌*◌, ◌≡◌}
use Rattle.claims.specs.Words.{claim_width}
use Rattle.wire.specs.Frame.{frame_limit}
use Rattle.wire.specs.Run.{read_run}
use Rattle.host.specs.Frames.{in_words}
use Rattle.host.proofs.SentPaths.{Ahead}
use Rattle.host.proofs.sent.write_frames.Given as goal

abbrev pub invariant-loop-four : goal.invariant-loop-four
invariant-loop-four l =
    (l.four-iterator.size ≡ claim_width * frame_limit)
    × Ahead (read_run in_words l.count l.words) l.initial.frames l.frames l.at l.four-iterator.rest.now
