use Rattle.std.proofs.Common.{rules, sym, ◌∙◌}
use Rattle.keys.proofs.StoreLaws.{length_running}
use Rattle.keys.proofs.LeafPaths.{resum_on, resum_end, resum_part}
use Rattle.keys.proofs.leaf.resum.Goals as goal

pub loop-i-preserved : goal.loop-i-preserved
loop-i-preserved c = resum_on _ c.loop-i.sum-items _ _ _ c.loop-i.invariant (search rules) (search rules)

pub returns : goal.returns
returns c =
    rw (resum_end _ c.loop-i.sum-items _ _ _ c.loop-i.invariant (search rules) (search rules))
    (resum_part c.args.sums.now c.args.first _ _ (sym (length_running _ _ ∙ search rules)))
