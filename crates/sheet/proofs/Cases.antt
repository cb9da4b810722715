-- The worked sheets hold, as one table (`table` of specs/Cases), and so does what the call returns (`calls`), by computing both columns; and the sizes come out
-- as the request has them. Assumes nothing.
use mathlib.Core.List.{map, flatten}
use mathlib.Core.Path.{◌≡◌, refl}
use Rattle.keys.specs.Store.{limit, zeros, store_of, in_order}
use Rattle.text.specs.Decimal.{decimal, decimal_in}
use Rattle.text.specs.Groups.{in_groups}
use Rattle.sheet.specs.Sheet.{spaces, right_aligned, field, row, padded, head_line, rows, sheet_lines, lines_text, sheet_length}
use Rattle.sheet.specs.Call.{write_sheet}
use Rattle.sheet.specs.Cases.{Row, table, Called, calls}

pub sheets_hold : map (λ (r : Row). r.gives) table ≡ map (λ (r : Row). r.wanted) table
unfolding decimal decimal_in in_groups spaces right_aligned field row padded head_line rows sheet_lines
sheets_hold = refl

-- what the call returns
pub calls_hold : map (λ (c : Called). c.gives) calls ≡ map (λ (c : Called). c.wanted) calls
unfolding zeros store_of in_order write_sheet lines_text flatten decimal decimal_in in_groups spaces right_aligned field row padded head_line rows sheet_lines
calls_hold = refl

-- a line is 62 characters and a line feed; the last is a full store's
pub sheet_sizes : (sheet_length 0 ≡ 63) × (sheet_length 3 ≡ 126) × (sheet_length 120 ≡ 2583) × (sheet_length 121 ≡ 2709) × (sheet_length limit ≡ 44163)
sheet_sizes = (refl, refl, refl, refl, refl)
