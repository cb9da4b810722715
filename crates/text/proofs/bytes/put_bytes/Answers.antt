-- `text::bytes::put_bytes` meets its contract. Assumes nothing.
use Rattle.std.proofs.Common.{refl, arith}
use Rattle.text.proofs.BytesPaths.{text_unfit, text_put}
use Rattle.text.proofs.PutLaws.{put_part}
use Rattle.text.proofs.bytes.put_bytes.Goals as goal

pub returns-then-not-has_room : goal.returns-then-not-has_room
returns-then-not-has_room c = text_unfit _ _ _ refl c.has_room.ensures c.if-not-has_room.true

pub returns : goal.returns
returns c = text_put _ _ _ refl c.has_room.ensures c.if-not-has_room.false _ refl (rw c.copy_from_slice.ensures.after (put_part _ _ _ _ (omega arith)))
