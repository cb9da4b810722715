-- `number::read` meets its contract. Assumes nothing.
use Rattle.wire.proofs.NumberLaws.{word_number_at}
use Rattle.wire.proofs.number.read.Goals as goal

pub returns : goal.returns
returns c =
    let a = c.args in
    word_number_at a.s.now a.at a.width c.requires.1 c.requires.0 (λ k. (c.type_inv.s k).fits) c.copy_from_slice.ensures.after c.from_be_bytes.type_inv c.from_be_bytes.ensures
