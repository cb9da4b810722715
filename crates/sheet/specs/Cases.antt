-- Worked sheets, as they hang on the wall: stores of no key, of one to four, and of as many as fill a page and one more, of which the lines are given that tell
-- where pages begin and end; then what the call returns. That each row gives what is wanted is one law for each table, in proofs/Cases, by computing.
-- Assumes nothing.
use Rattle.std.specs.Prelude.{ℕ, zero, suc, ◌+◌, List, [], ◌∷◌, ◌++◌, drop, take}
use Prim.Native.Char.{code}
use Prim.Native.String.{String, char_at}
use Rattle.keys.specs.declared.store.Store.{Store}
use Rattle.keys.specs.Store.{store_of}
use Rattle.wire.specs.Answer.{Length}
use Rattle.sheet.specs.Sheet.{line_width, page_keys, sheet_lines}
use Rattle.sheet.specs.Call.{write_sheet}

-- the first n characters of a text, by their codes
abbrev pub codes : ℕ → String → List ℕ
codes zero s = []
codes (suc n) s = codes n s ++ (code (char_at s n) ∷ [])

-- a line of the sheet
abbrev pub written : String → List ℕ
written s = codes line_width s

pub record Row : Type 0 where
  pub gives : List (List ℕ)
  pub wanted : List (List ℕ)

-- the whole sheet of some keys
abbrev pub whole : List ℕ → List (List ℕ) → Row
whole l ls = record { gives = sheet_lines l; wanted = ls }

-- so many lines of the sheet of some keys, from a place on; those past its end are not there
abbrev pub part : List ℕ → ℕ → ℕ → List (List ℕ) → Row
part l from n ls = record { gives = take n (drop from (sheet_lines l)); wanted = ls }

-- the keys below a number
abbrev pub below : ℕ → List ℕ
below zero = []
below (suc n) = below n ++ (n ∷ [])

abbrev pub table : List Row
table =
    -- "An empty store is one page with its head line only."
    whole []
    (written "page    1 of    1                                             "
    ∷ [])
    -- key 0 is a key, and "unused fields are spaces"
    ∷ whole (0 ∷ [])
    (written "page    1 of    1                                             "
    ∷ written "                   0                                          "
    ∷ [])
    -- "right-aligned base-ten digits, with one space between fields. Keys go in rising order along the line"
    ∷ whole (7 ∷ 10 ∷ 125 ∷ 126 ∷ [])
    (written "page    1 of    1                                             "
    ∷ written "                   7                   10                  125"
    ∷ written "                 126                                          "
    ∷ [])
    -- "A page has 40 lines": 120 keys are one, with nothing behind it
    ∷ part (below page_keys) 0 2
    (written "page    1 of    1                                             "
    ∷ written "                   0                    1                    2"
    ∷ [])
    ∷ part (below page_keys) 40 2
    (written "                 117                  118                  119"
    ∷ [])
    -- "the last page only those it needs", and the line above it is not one of the 40
    ∷ part (below (page_keys + 1)) 0 1
    (written "page    1 of    2                                             "
    ∷ [])
    ∷ part (below (page_keys + 1)) 40 4
    (written "                 117                  118                  119"
    ∷ written "page    2 of    2                                             "
    ∷ written "                 120                                          "
    ∷ [])
    ∷ []

-- ---- what `write_sheet` returns: of a store and so many places of a lent buffer, the number and the length

pub record Called : Type 0 where
  pub gives : Length
  pub wanted : Length

abbrev pub tells : Store → ℕ → ℕ → ℕ → Called
tells s room number length = record { gives = write_sheet s room; wanted = record { number = number; length = length } }

abbrev pub calls : List Called
calls =
    -- "15 wants the sheet's own length of lent output, and that length is returned."
    tells (store_of []) 62 15 0
    ∷ tells (store_of []) 63 0 63
    ∷ tells (store_of (1 ∷ 2 ∷ 3 ∷ [])) 125 15 0
    ∷ tells (store_of (1 ∷ 2 ∷ 3 ∷ [])) 126 0 126
    ∷ tells (store_of (1 ∷ 2 ∷ 3 ∷ 4 ∷ [])) 10000 0 189
    -- a store out of order gets 1, whatever is lent
    ∷ tells (store_of (2 ∷ 1 ∷ [])) 0 1 0
    ∷ tells (store_of (1 ∷ 1 ∷ [])) 10000 1 0
    ∷ []
