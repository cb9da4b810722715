-- `transcript::record::put_record` meets its contract. Assumes nothing.
use Rattle.transcript.proofs.RecordPaths.{cast_is, put_some}
use Rattle.transcript.proofs.record.put_record.Goals as goal

pub returns-then-at-words : goal.returns-then-at-words
returns-then-at-words c = search (put_some, cast_is)
