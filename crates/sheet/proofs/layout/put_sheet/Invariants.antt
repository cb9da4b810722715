-- `sheet::layout::put_sheet` meets its contract. The invariant: what is left to write, the pages of the chunks to come, makes up the whole. Assumes nothing.
use Rattle.std.proofs.Common.{◌≡◌}
use Rattle.std.specs.Iterator.Adapters.{enumerate_source, enumerate_count}
use Rattle.std.specs.Slice.Iter.{chunks_rest, chunks_size}
use Rattle.sheet.specs.Sheet.{page_keys}
use Rattle.sheet.proofs.LayoutPaths.{PagesLeft}
use Rattle.sheet.proofs.layout.put_sheet.Given as goal

abbrev pub invariant-loop-i : goal.invariant-loop-i
invariant-loop-i l =
    (chunks_size (enumerate_source l.i-iterator) ≡ page_keys)
    × PagesLeft l.initial.sheet l.keys l.sheet l.pages (enumerate_count l.i-iterator) (chunks_rest (enumerate_source l.i-iterator))
