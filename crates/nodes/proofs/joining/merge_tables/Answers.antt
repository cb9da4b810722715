use Rattle.std.proofs.Common.{Bool, ap, get_or, ◌+◌}
use mir.Val.{bool_byte}
use Rattle.claims.specs.Claim.{no_claim}
use Rattle.rule.specs.Node.{blanks}
use Rattle.nodes.proofs.Compared.{le_before, min_before}
use Rattle.nodes.proofs.JoiningPaths.{merging_start, merging_on, merging_one_done, merging_other_done, merging_full}
use Rattle.nodes.proofs.joining.merge_tables.Goals as goal

pub loop-table-init : goal.loop-table-init
unfolding blanks
loop-table-init c = search merging_start

pub returns-then-i-one : goal.returns-then-i-one
returns-then-i-one c = search merging_one_done

pub returns-then-j-other : goal.returns-then-j-other
returns-then-j-other c = search merging_other_done

pub loop-table-preserved : goal.loop-table-preserved
loop-table-preserved c =
    let l = c.loop-table in
    let a = get_or c.args.one.now l.i no_claim in
    let b = get_or c.args.other.now l.j no_claim in
    merging_on c.args.one.now c.args.other.now l.invariant c.loop-table-test.true c.if-i-one.false c.if-j-other.false (min_before a b c.min.ensures)
    (ap (λ (t : Bool). l.i + bool_byte t) (le_before a b c.le.ensures))
    (ap (λ (t : Bool). l.j + bool_byte t) (le_before b a c.le-in-loop-table.ensures))

pub returns : goal.returns
returns c = search merging_full
