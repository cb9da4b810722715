-- `sent::frame_of` meets its contract. The invariant: the claims passed stand at the front of their places. Assumes nothing.
use Rattle.std.proofs.Common.{◌≡◌}
use Rattle.keys.specs.Place.{put_at}
use Rattle.wire.specs.Run.{read_run}
use Rattle.host.specs.Frames.{in_words}
use Rattle.host.proofs.sent.frame_of.Given as goal

abbrev pub invariant-loop-i : goal.invariant-loop-i
invariant-loop-i l = l.claim-items ≡ put_at l.initial.claim-items 0 (read_run in_words l.i l.words)
