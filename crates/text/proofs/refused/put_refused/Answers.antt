-- `text::refused::put_refused` meets its contract. Assumes nothing.
use Rattle.text.proofs.RefusedPaths.{refused_none, refused_put}
use Rattle.text.proofs.refused.put_refused.Goals as goal

pub returns-then-out-end : goal.returns-then-out-end
returns-then-out-end c = refused_none _ _ (rw c.from-number.ensures at c.digit_count-end.ensures.0) c.if-out-end.true

pub returns : goal.returns
returns c =
    refused_put _ _ (rw c.from-number.ensures at c.digit_count-end.ensures.0) c.if-out-end.false _ (rw c.from-number.ensures at c.digits_to.ensures.0)
    c.copy_from_slice.ensures.after (rw c.from-number.ensures at c.digits_to.ensures.1)
