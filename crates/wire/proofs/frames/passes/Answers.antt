-- `frames::passes` meets its contract. Assumes nothing.
use Rattle.std.proofs.Common.{◌∙◌}
use Rattle.wire.proofs.FrameLaws.{passes_is}
use Rattle.wire.proofs.frames.passes.Goals as goal

pub returns : goal.returns
returns c = c.is_ok.ensures.value ∙ passes_is c.judge.result c.judge.ensures
