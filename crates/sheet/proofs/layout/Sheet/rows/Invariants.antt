-- `sheet::layout::Sheet::rows` meets its contract. The invariant: what is left to write, the rows of the chunks to come, makes up the whole. Assumes nothing.
use Rattle.std.proofs.Common.{◌≡◌}
use Rattle.std.specs.Slice.Iter.{chunks_rest, chunks_size}
use Rattle.sheet.specs.Sheet.{row_keys}
use Rattle.sheet.proofs.LayoutPaths.{RowsLeft}
use Rattle.sheet.proofs.layout.Sheet.rows.Given as goal

abbrev pub invariant-loop-row : goal.invariant-loop-row
invariant-loop-row l =
    (chunks_size l.row-iterator ≡ row_keys) × RowsLeft l.initial.self l.keys l.self (chunks_rest l.row-iterator)
