-- `nodes::taking::enlist` meets its contract. Assumes nothing.
use Rattle.std.proofs.Common.{arith, get_or, rules, ◌≡◌, length, length-take}
use Rattle.claims.specs.Claim.{no_claim}
use Rattle.rule.specs.Table.{table_limit}
use Rattle.rule.proofs.NodeLaws.{length_mapped}
use Rattle.nodes.proofs.Compared.{le_before}
use Rattle.nodes.proofs.TakingPaths.{enlisted_last, enlisted_held, enlisted_put, other_held, other_past}
use Rattle.nodes.proofs.taking.enlist.Goals as goal
use Rattle.nodes.proofs.taking.enlist.Goals.{else-at-count-via-then-at-count+else-le, else-at-count-via-else-at-count}

pub returns-then-at-eq-TABLE : goal.returns-then-at-eq-TABLE
returns-then-at-eq-TABLE c =
    let table = c.args.table.now in
    let whole : length table.claims ≡ table_limit = search (rules, length_mapped) in
    enlisted_last table.claims table.count c.args.claim whole c.min-count.ensures c.place_among-at.ensures.0 c.place_among-at.ensures.1 c.if-at-eq-TABLE.true

pub returns-then-le : goal.returns-then-le
returns-then-le c =
    let whole : length c.args.table.now.claims ≡ table_limit = search (rules, length_mapped) in
    let told = le_before (get_or c.args.table.now.claims c.place_among-at.result no_claim) c.args.claim c.le.ensures in
    enlisted_held c.args.table.now.claims c.args.table.now.count c.args.claim whole c.min-count.ensures c.place_among-at.ensures.0 c.place_among-at.ensures.1
    c.if-at-count.true
    told c.if-le.true

pub put-requires : goal.put-requires
put-requires c =
    let short = length-take c.min-count.result c.args.table.now.claims in
    let whole : length c.args.table.now.claims ≡ table_limit = search (rules, length_mapped) in
    (omega (arith, short), omega arith)

pub returns : goal.returns
returns c =
    let table = c.args.table.now in
    let whole : length table.claims ≡ table_limit = search (rules, length_mapped) in
    enlisted_put table.claims table.count c.args.claim whole c.min-count.ensures c.place_among-at.ensures.0 c.place_among-at.ensures.1 c.if-at-eq-TABLE.false
    (elim c.else-at-count.branch [
      | else-at-count-via-then-at-count+else-le w ↦
          other_held table.claims table.count c.args.claim whole c.min-count.ensures c.place_among-at.ensures.0 c.place_among-at.ensures.1 w.if-at-count.true
          (le_before (get_or table.claims c.place_among-at.result no_claim) c.args.claim w.le.ensures) w.if-le.false
      | else-at-count-via-else-at-count w ↦
          other_past table.claims table.count c.args.claim whole c.min-count.ensures c.place_among-at.ensures.0 c.place_among-at.ensures.1 w.if-at-count.false
    ])
    c.min-kept.ensures c.put.ensures
