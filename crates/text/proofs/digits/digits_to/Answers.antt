-- `text::digits::digits_to` meets its contract. Assumes nothing.
use Rattle.std.proofs.Common.{rules}
use Rattle.text.proofs.DigitsPaths.{digits_fit, digits_put}
use Rattle.text.proofs.digits.digits_to.Goals as goal

pub write_digits-requires : goal.write_digits-requires
write_digits-requires c = search (rules, digits_fit)

pub returns : goal.returns
returns c = digits_put _ _ _ _ _ c.ranges.n.fits c.write_digits.ensures.start c.write_digits.ensures.written c.write_digits.ensures.before
