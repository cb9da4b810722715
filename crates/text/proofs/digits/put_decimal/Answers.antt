-- `text::digits::put_decimal` meets its contract. Assumes nothing.
use Rattle.text.proofs.BytesPaths.{text_unfit, text_put}
use Rattle.text.proofs.digits.put_decimal.Goals as goal

pub returns-then-not-has_room : goal.returns-then-not-has_room
returns-then-not-has_room c = text_unfit _ _ _ c.digit_count-count.ensures.0 c.has_room.ensures c.if-not-has_room.true

pub returns : goal.returns
returns c = text_put _ _ _ c.digit_count-count.ensures.0 c.has_room.ensures c.if-not-has_room.false _ c.digits_to.ensures.0 c.digits_to.ensures.1
