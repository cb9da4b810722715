-- `beats::beats::beat_in` meets its contract. Assumes nothing.
use Rattle.beats.proofs.BeatsPaths.{beat_many, beat_short, beat_room, beat_done}
use Rattle.beats.proofs.beats.beat_in.Goals as goal

pub returns-then-pending-gt-TABLE : goal.returns-then-pending-gt-TABLE
returns-then-pending-gt-TABLE c = search beat_many

pub returns-then-lent-lt-BEAT : goal.returns-then-lent-lt-BEAT
returns-then-lent-lt-BEAT c = search beat_short

pub serve_table-requires : goal.serve_table-requires
serve_table-requires c = search beat_room

pub returns : goal.returns
returns c = search beat_done
