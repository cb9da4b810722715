-- `beats::beats::serve_claim` meets its contract. Assumes nothing.
use Rattle.beats.proofs.BeatsPaths.{turn_matched, turn_waits}
use Rattle.beats.proofs.beats.serve_claim.Goals as goal

pub returns-then-matches : goal.returns-then-matches
returns-then-matches c = search turn_matched

pub returns-then-left-eq0 : goal.returns-then-left-eq0
returns-then-left-eq0 c = search turn_waits
