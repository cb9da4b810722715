use Rattle.std.proofs.Common.{sym, ◌∙◌, ◌≡◌}
use Rattle.keys.proofs.PlaceLaws.{put_at_nil}
use Rattle.wire.proofs.RunLaws.{put_at_write_run, end_write_run}
use Rattle.wire.proofs.run.write_run.Goals as goal

pub loop-i-init : goal.loop-i-init
loop-i-init g c = sym (put_at_nil _ _)

pub loop-i-preserved : goal.loop-i-preserved
loop-i-preserved g c =
    let size : c.SIZE.result ≡ g.T.Laid.layout.size = c.SIZE.ensures ∙ sym g.met.T.Laid.sized in
    put_at_write_run g.T.Laid.layout g.met.T.Laid.long _ _ _ _ c.loop-i-test.true c.requires c.loop-i.invariant c.index-things-i.is (rw size at c.write.ensures)

pub returns : goal.returns
returns g c = end_write_run g.T.Laid.layout g.met.T.Laid.long _ _ _ _ c.loop-i-test.false c.loop-i.invariant
