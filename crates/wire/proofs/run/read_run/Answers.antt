use Rattle.std.proofs.Common.{rules, sym, ◌∙◌, ◌≡◌}
use Rattle.keys.proofs.PlaceLaws.{put_at_nil}
use Rattle.wire.proofs.RunLaws.{set_read_run, end_read_run}
use Rattle.wire.proofs.run.read_run.Goals as goal

pub loop-i-init : goal.loop-i-init
loop-i-init g c = sym (put_at_nil _ 0)

pub loop-i-preserved : goal.loop-i-preserved
loop-i-preserved g c =
    let size : c.SIZE.result ≡ g.T.Laid.layout.size = c.SIZE.ensures ∙ sym g.met.T.Laid.sized in
    set_read_run g.T.Laid.layout _ _ _ _ (search rules) c.loop-i.invariant (rw size at c.read.ensures)

pub returns : goal.returns
returns g c = end_read_run g.T.Laid.layout c.args.things.now c.args.s.now c.args.at c.loop-i.i c.loop-i.auto.i-end c.loop-i-test.false c.loop-i.invariant
