-- `save::save` meets its contract: one law for each way. Assumes nothing.
use Rattle.std.proofs.Common.{refl}
use Rattle.rule.proofs.NodeLaws.{length_mapped}
use Rattle.rule.specs.Answer.{rest_given}
use Rattle.keys.proofs.LentLaws.{sized_store_with}
use Rattle.wire.specs.Image.{Shaped}
use Rattle.nodes.specs.Lent.{node_held}
use Rattle.host.proofs.SavePaths.{saved_15, saved_0}
use Rattle.host.proofs.save.save.Goals as goal

pub returns-then-out-lt-IMAGE : goal.returns-then-out-lt-IMAGE
returns-then-out-lt-IMAGE c = saved_15 _ _ c.if-out-lt-IMAGE.true

pub returns : goal.returns
returns c =
    let shaped : Shaped (node_held c.args.keys.now (rest_given c.args.node)) = record { store = sized_store_with _ _ c.requires.long; pending = search length_mapped } in
    saved_0 _ _ shaped (c.requires.ordered refl) c.if-out-lt-IMAGE.false c.write_image_in.ensures.0 c.write_image_in.ensures.1
