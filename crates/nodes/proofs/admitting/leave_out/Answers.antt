use Rattle.std.proofs.Common.{◌≡◌, length}
use Rattle.rule.specs.Table.{table_limit}
use Rattle.rule.proofs.NodeLaws.{length_mapped}
use Rattle.nodes.proofs.AdmittingPaths.{leaving_none, leaving_kept, leaving_out, leaving_done}
use Rattle.nodes.proofs.admitting.leave_out.Goals as goal
use Rattle.nodes.proofs.admitting.leave_out.Goals.{then-tells, else-tells}

pub loop-i-init : goal.loop-i-init
loop-i-init c = leaving_none _ _

pub loop-i-preserved : goal.loop-i-preserved
loop-i-preserved c =
    let table = c.args.table.now in
    let whole : length table.claims ≡ table_limit = search length_mapped in
    elim c.if-tells.branch [
      | then-tells w ↦
          rw (w.places-is, w.kept-is)
          (leaving_kept table.claims table.count c.requires whole c.loop-i.invariant c.loop-i-test.true c.tells.ensures w.if-tells.true)
      | else-tells w ↦
          rw (w.places-is, w.kept-is)
          (leaving_out table.claims table.count c.requires whole c.loop-i.invariant c.loop-i-test.true c.tells.ensures w.if-tells.false)
    ]

pub returns : goal.returns
returns c = search leaving_done
