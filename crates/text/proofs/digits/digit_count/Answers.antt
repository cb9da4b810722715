-- `text::digits::digit_count` meets its contract. Assumes nothing.
use Rattle.text.proofs.DigitsPaths.{digits_counted}
use Rattle.text.proofs.digits.digit_count.Goals as goal

pub returns : goal.returns
returns c = digits_counted _ _ c.ranges.n.fits (rw c.max.ensures at c.ilog10.ensures.power_le) (rw c.max.ensures at c.ilog10.ensures.next_power_gt)
