-- What the code that lays out a sheet is given: numbers that fit their fields, and room. No rule of the request. Assumes nothing.
use Rattle.std.specs.Prelude.{ℕ, ◌+◌, ◌^◌, ◌≤◌, ◌<◌, List, length, get_or}
use Rattle.keys.specs.Store.{limit}
use Rattle.text.specs.Decimal.{decimal}
use Rattle.sheet.specs.Sheet.{number_width, page, lines_text, sheet_text}

-- every key is a number of 64 bits, as in every store that the code holds
abbrev pub KeysFit : List ℕ → Type 0
KeysFit l = (i : ℕ) → get_or l i 0 < 2 ^ 64

-- a page's number and the number of pages fit their fields
pub record HeadGiven (number pages : ℕ) : Type 0 where
  pub number_fits : length (decimal number) ≤ number_width
  pub pages_fit : length (decimal pages) ≤ number_width

pub record PageGiven (at : ℕ) (ks : List ℕ) (number pages room : ℕ) : Type 0 where
  pub head : HeadGiven number pages
  pub fits : at + length (lines_text (page number pages ks)) ≤ room

pub record SheetGiven (ks : List ℕ) (room : ℕ) : Type 0 where
  pub few : length ks ≤ limit
  pub fits : length (sheet_text ks) ≤ room
