use Rattle.std.proofs.Common.{get_or}
use Rattle.claims.specs.Claim.{no_claim}
use Rattle.nodes.proofs.Compared.{le_before}
use Rattle.nodes.proofs.OrderPaths.{looking_first, looking_fall, looking_unfit, looking_on}
use Rattle.nodes.proofs.order.pending.Goals as goal

pub loop-claim-init : goal.loop-claim-init
loop-claim-init c = looking_first _ _

pub returns-then-le : goal.returns-then-le
returns-then-le c =
    let fell = le_before (get_or c.args.claims.now c.loop-claim.claim-index no_claim) c.loop-claim.last c.le.ensures in
    looking_fall _ _ c.loop-claim.invariant c.loop-claim-test.true _ fell c.if-le.true

pub returns-then-not-fits : goal.returns-then-not-fits
returns-then-not-fits c =
    let fell = le_before (get_or c.args.claims.now c.loop-claim.claim-index no_claim) c.loop-claim.last c.le.ensures in
    looking_unfit _ _ c.loop-claim.invariant c.loop-claim-test.true _ fell c.if-le.false _ c.fits.ensures c.if-not-fits.true

pub loop-claim-preserved : goal.loop-claim-preserved
loop-claim-preserved c =
    let fell = le_before (get_or c.args.claims.now c.loop-claim.claim-index no_claim) c.loop-claim.last c.le.ensures in
    looking_on _ _ c.loop-claim.invariant c.loop-claim-test.true _ fell c.if-le.false _ c.fits.ensures c.if-not-fits.false _ c.tells-given.ensures
