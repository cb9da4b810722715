-- `text::digits::put_decimal_before` meets its contract. Assumes nothing.
use Rattle.text.proofs.DigitsPaths.{past_lem, short_lem, room_lem}
use Rattle.text.proofs.digits.put_decimal_before.Goals as goal
use Rattle.text.proofs.digits.put_decimal_before.Goals.{then-out-end-via-then-out-end, then-out-end-via-else-out-end+then-end-digit_count}

pub returns-then-out-end : goal.returns-then-out-end
returns-then-out-end c =
    elim c.then-out-end.branch [
      | then-out-end-via-then-out-end w ↦ past_lem _ _ _ w.if-out-end.true
      | then-out-end-via-else-out-end+then-end-digit_count w ↦ short_lem _ _ _ w.if-out-end.false w.digit_count.ensures.0 w.if-end-digit_count.true
    ]

pub returns : goal.returns
returns c = room_lem _ _ _ c.if-out-end.false c.digit_count.ensures.0 c.if-end-digit_count.false _ c.digits_to.ensures.0 c.digits_to.ensures.1
