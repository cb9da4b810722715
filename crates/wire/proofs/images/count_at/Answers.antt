-- `images::count_at` meets its contract: one law for each way. Assumes nothing.
use Rattle.wire.proofs.ImagePaths.{count_missing, count_high, count_few}
use Rattle.wire.proofs.images.count_at.Goals as goal

pub returns-then-bytes-at-clause-told : goal.returns-then-bytes-at-clause-told
returns-then-bytes-at-clause-told c = search count_missing

pub returns-then-most-count-clause-told : goal.returns-then-most-count-clause-told
returns-then-most-count-clause-told c = search count_high

pub returns-clause-told : goal.returns-clause-told
returns-clause-told c = search count_few
