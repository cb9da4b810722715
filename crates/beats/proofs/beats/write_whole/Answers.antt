-- `beats::beats::write_whole` meets its contract. Assumes nothing.
use Rattle.beats.proofs.BeatsPaths.{whole_none, whole_one}
use Rattle.beats.proofs.beats.write_whole.Goals as goal

pub returns-then-store-eq0 : goal.returns-then-store-eq0
returns-then-store-eq0 c = search whole_none

pub returns : goal.returns
returns c = search whole_one
