-- `number::write` meets its contract. Assumes nothing.
use Rattle.wire.proofs.NumberLaws.{put_at_word}
use Rattle.wire.proofs.number.write.Goals as goal

pub returns : goal.returns
returns c =
    let a = c.args in
    put_at_word a.out.now a.at a.width c.requires.1 a.x c.to_be_bytes-word.ensures c.copy_from_slice.ensures.after
