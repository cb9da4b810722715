-- `merging::runs::write_merged` meets its contract. Assumes nothing.
use Rattle.merging.proofs.RunsPaths.{copied}
use Rattle.merging.proofs.runs.write_merged.Goals as goal

pub returns : goal.returns
returns c = search copied
