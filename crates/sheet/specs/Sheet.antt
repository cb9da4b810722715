-- The wall sheet (document 02, slip 4): "Staff pin up the keys held." The keys of a store, laid out on lines, in ASCII. In order: sizes; one line; pages; the
-- sheet; how long it is. Numbers as text are in `text`. Assumes nothing.
use Rattle.std.specs.Prelude.{ℕ, suc, ◌+◌, ◌-◌, ◌*◌, ◌≤◌, max, cond, ◌≡◌, ltb, length, get_or, replicate}
use mathlib.Core.List.{List, [], ◌∷◌, ◌++◌, map, flatten}
use Rattle.wire.specs.Run.{Each}
use Rattle.text.specs.Decimal.{decimal}
use Rattle.text.specs.Groups.{in_groups, group_count}
use Rattle.text.specs.Line.{line_feed, space}

-- ---- sizes

-- "lines of exactly 62 characters"
abbrev pub line_width : ℕ
line_width = 62

-- "three fields of 20 characters"
abbrev pub row_keys : ℕ
row_keys = 3

abbrev pub field_width : ℕ
field_width = 20

-- "A page has 40 lines": the line above it is not one of them
abbrev pub page_rows : ℕ
page_rows = 40

abbrev pub page_keys : ℕ
page_keys = row_keys * page_rows

-- "its number right-aligned in 4"
abbrev pub number_width : ℕ
number_width = 4

-- ---- one line, without its line feed

unfoldable pub spaces : ℕ → List ℕ
spaces n = replicate n space

-- "right-aligned base-ten digits"
unfoldable pub right_aligned : ℕ → ℕ → List ℕ
right_aligned width n = spaces (width - length (decimal n)) ++ decimal n

-- the field of the key at a place among a line's keys: "unused fields are spaces"
unfoldable pub field : List ℕ → ℕ → List ℕ
field ks i = cond (ltb i (length ks)) (right_aligned field_width (get_or ks i 0)) (spaces field_width)

-- "Each line has three fields of 20 characters, .. with one space between fields. Keys go in rising order along the line"
unfoldable pub row : List ℕ → List ℕ
row ks = field ks 0 ++ (space ∷ (field ks 1 ++ (space ∷ field ks 2)))

-- `page ` and ` of `
abbrev pub page_word : List ℕ
page_word = 112 ∷ 97 ∷ 103 ∷ 101 ∷ space ∷ []

abbrev pub of_word : List ℕ
of_word = space ∷ 111 ∷ 102 ∷ space ∷ []

-- a text, "then spaces"
unfoldable pub padded : List ℕ → List ℕ
padded text = text ++ spaces (line_width - length text)

-- "a line of 62: `page `, its number right-aligned in 4, ` of `, the number of pages likewise, then spaces"
unfoldable pub head_line : ℕ → ℕ → List ℕ
head_line number pages = padded (page_word ++ (right_aligned number_width number ++ (of_word ++ right_aligned number_width pages)))

-- ---- pages

-- the lines of some keys, as many as they need
unfoldable pub rows : List ℕ → List (List ℕ)
rows ks = map row (in_groups row_keys ks)

-- "Above each page stands a line"
abbrev pub page : ℕ → ℕ → List ℕ → List (List ℕ)
page number pages ks = head_line number pages ∷ rows ks

-- the keys of each page: "A page has 40 lines, the last page only those it needs." "An empty store is one page with its head line only."
abbrev pub page_groups : List ℕ → List (List ℕ)
page_groups [] = [] ∷ []
page_groups (k ∷ ks) = in_groups page_keys (k ∷ ks)

-- pages one after the other, from a number on
abbrev pub pages_from : ℕ → ℕ → List (List ℕ) → List (List ℕ)
pages_from number pages [] = []
pages_from number pages (ks ∷ kss) = page number pages ks ++ pages_from (suc number) pages kss

-- ---- the sheet

-- the lines of the sheet of a store that holds these keys
unfoldable pub sheet_lines : List ℕ → List (List ℕ)
sheet_lines l = pages_from 1 (length (page_groups l)) (page_groups l)

-- "lines of exactly 62 characters and a line feed"
abbrev pub line : List ℕ → List ℕ
line characters = characters ++ line_feed

unfoldable pub lines_text : List (List ℕ) → List ℕ
lines_text ls = flatten (map line ls)

abbrev pub sheet_text : List ℕ → List ℕ
sheet_text l = lines_text (sheet_lines l)

-- such a line: its characters, none of which is a line feed
pub record IsLine (characters : List ℕ) : Type 0 where
  pub long : length characters ≡ line_width
  pub shown : Each (λ (c : ℕ). space ≤ c) characters

-- ---- how long it is: a line for each page and for each three keys

abbrev pub line_size : ℕ
line_size = line_width + 1

abbrev pub page_count : ℕ → ℕ
page_count m = max 1 (group_count m page_keys)

abbrev pub sheet_length : ℕ → ℕ
sheet_length m = line_size * (page_count m + group_count m row_keys)
