use Rattle.std.proofs.Common.{arith, get_or, sym, ◌+◌, ◌/◌, ◌∙◌}
use Rattle.claims.specs.Claim.{no_claim}
use Rattle.nodes.proofs.Compared.{lt_before}
use Rattle.nodes.proofs.TakingPaths.{halved_to_none, halved_to_up, halved_to_down, place_among_start}
use Rattle.nodes.proofs.taking.place_among.Goals as goal

pub loop-size-init : goal.loop-size-init
loop-size-init c = (omega arith, place_among_start _ _)

pub loop-size-preserved-then-lt : goal.loop-size-preserved-then-lt
loop-size-preserved-then-lt c =
    let told = lt_before (get_or c.args.claims.now (c.loop-size.base + c.loop-size.size / 2) no_claim) c.args.claim c.lt.ensures in
    let on = halved_to_up c.args.claims.now c.args.claim c.loop-size.base c.loop-size.size (omega arith) (sym told ∙ c.if-lt.true) in
    (omega arith, c.loop-size.invariant.1 ∙ on)

pub loop-size-preserved : goal.loop-size-preserved
loop-size-preserved c =
    let told = lt_before (get_or c.args.claims.now (c.loop-size.base + c.loop-size.size / 2) no_claim) c.args.claim c.lt.ensures in
    let on = halved_to_down c.args.claims.now c.args.claim c.loop-size.base c.loop-size.size (omega arith) (sym told ∙ c.if-lt.false) in
    (omega arith, c.loop-size.invariant.1 ∙ on)

pub returns : goal.returns
returns c =
    let l = c.loop-size in
    (sym (l.invariant.1 ∙ halved_to_none c.args.claims.now c.args.claim l.size l.base l.size (omega arith)), omega arith)
