-- `nodes::order::fits` meets its contract. Assumes nothing.
use Rattle.std.proofs.Common.{sym, ◌∙◌}
use Rattle.nodes.proofs.OrderPaths.{fits_judged, fits_lo, fits_hi}
use Rattle.nodes.proofs.order.fits.Goals as goal

pub returns-then-is_err : goal.returns-then-is_err
returns-then-is_err c =
    fits_judged c.args.keys.now c.args.held c.args.claim c.requires _ c.judge_formerly.ensures (sym c.is_err.ensures.value ∙ c.if-is_err.true)

pub returns-then-places : goal.returns-then-places
returns-then-places c =
    fits_hi c.args.keys.now c.args.held c.args.claim c.requires _ c.judge_formerly.ensures (sym c.is_err.ensures.value ∙ c.if-is_err.false)
    _ _ c.places_in-places.ensures.0 c.places_in-places.ensures.1 c.if-places.true

pub returns-else-places : goal.returns-else-places
returns-else-places c =
    fits_lo c.args.keys.now c.args.held c.args.claim c.requires _ c.judge_formerly.ensures (sym c.is_err.ensures.value ∙ c.if-is_err.false)
    _ _ c.places_in-places.ensures.0 c.places_in-places.ensures.1 c.if-places.false
