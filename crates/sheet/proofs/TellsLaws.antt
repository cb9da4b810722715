-- The sheet tells the keys. A sheet is read line by line, 63 bytes to each: a head line tells no key, and every other one the keys of its three fields, of which
-- those that end with a space are unused. What is read of the sheet of some keys is these keys (`keys_on_sheet_text`); so equal sheets are of equal keys
-- (`sheet_tells_keys`). Assumes nothing.
use Prim.Native.Nat.{ℕ, zero, suc, ◌-◌, ◌*◌, ◌%◌, ◌^◌, ◌≤◌, ◌<◌}
use native.Mathlib.Omega.{arith}
use mathlib.Core.Bool.{cond}
use mathlib.Core.List.{List, [], ◌∷◌, ◌++◌, map, flatten, append_assoc, append-nil}
use mathlib.Core.List.Memᴰ
use mathlib.Core.List.{Memᴰ}
use mathlib.Core.Logic.{⊎_elim}
use mathlib.Core.Path.{◌≡◌, refl, ap, ap₂, sym, ◌∙◌}
use borrow.Author.Tests.{ne_eqb}
use lib.Dec.{eqb}
use lib.ListN.{length, take, drop, get_or, length-append, length-take, length-drop, take-append-drop, drop_of_length-le}
use lib.Seq.{take_at, drop_at, get_or_at, drop-cons, drop-drop, take-append-le}
use Rattle.keys.specs.Store.{limit}
use Rattle.keys.proofs.Tests.{lt_or_le}
use Rattle.wire.specs.Run.{Each}
use Rattle.text.specs.Decimal.{digit, decimal, value}
use Rattle.text.specs.Groups.{in_groups}
use Rattle.text.specs.Line.{line_feed, space}
use Rattle.text.proofs.DecimalLaws.{length_decimal_some, length_decimal_most, decimal_last, value_decimal}
use Rattle.text.proofs.GroupsLaws.{in_groups_flatten}
use Rattle.sheet.specs.Sheet.{line_size, field_width, row_keys, page_keys, spaces, right_aligned, field, row, page_word, padded, head_line, rows, page, page_groups}
use Rattle.sheet.specs.Sheet.{sheet_lines, line, lines_text, sheet_text, IsLine}
use Rattle.sheet.specs.Laid.{KeysFit}
use Rattle.sheet.proofs.LineLaws.{length_spaces, field_used, field_unused, length_field, Plain, column_width, plain_row, row_columns, row_is_line}
use Rattle.sheet.proofs.LineLaws.{keys_fit_drop, keys_fit_take, length_line}
use Rattle.sheet.proofs.SheetLaws.{rows_nil, rows_turn, by_page, sheet_lines_lem}

-- ---- reading a sheet

-- the key that a field tells, if any
abbrev field_key : List ℕ → List ℕ
field_key cs = cond (eqb (get_or cs (field_width - 1) 0) space) [] (value cs ∷ [])

-- the keys of three fields, each with the character behind it
abbrev keys_in_fields : List ℕ → List ℕ
keys_in_fields x = field_key (take field_width x) ++ (field_key (take field_width (drop column_width x)) ++ field_key (take field_width (drop (2 * column_width) x)))

-- the keys that a line tells: none if it begins as a head line does
abbrev page_letter : ℕ
page_letter = get_or page_word 0 0

abbrev keys_in_line : List ℕ → List ℕ
keys_in_line x = cond (eqb (get_or x 0 0) page_letter) [] (keys_in_fields x)

-- the keys that lines tell, one after the other, and those that a sheet does
abbrev keys_in_lines : List (List ℕ) → List ℕ
keys_in_lines ls = flatten (map keys_in_line ls)

abbrev pub keys_on : List ℕ → List ℕ
keys_on text = keys_in_lines (in_groups line_size text)

-- ---- a field

value_spaces : (n : ℕ) (ds : List ℕ) → value (spaces n ++ ds) ≡ value ds
unfolding spaces value
value_spaces zero ds = refl
value_spaces (suc n) ds = let rest = value_spaces n ds in omega arith

field_key_used : (k : ℕ) → k < 2 ^ 64 → field_key (right_aligned field_width k) ≡ k ∷ []
unfolding right_aligned
field_key_used k h =
    let n = length (decimal k) in
    let blank = spaces (field_width - n) in
    let front = take (n - 1) (decimal k) in
    let end = digit (k % 10) ∷ [] in
    let whole : blank ++ decimal k ≡ (blank ++ front) ++ end = ap (λ (l : List ℕ). blank ++ l) (decimal_last k) ∙ sym (append_assoc blank front end) in
    let long : length (blank ++ front) ≡ field_width - 1 =
    omega (arith, length-append blank front, length_spaces (field_width - n), length-take (n - 1) (decimal k), length_decimal_some k, length_decimal_most k h) in
    let last : get_or (blank ++ decimal k) (field_width - 1) 0 ≡ digit (k % 10) =
    ap (λ (l : List ℕ). get_or l (field_width - 1) 0) whole ∙ get_or_at (blank ++ front) (digit (k % 10)) [] 0 (field_width - 1) long in
    rw (
      ne_eqb (get_or (blank ++ decimal k) (field_width - 1) 0) space (λ (e : get_or (blank ++ decimal k) (field_width - 1) 0 ≡ space). omega arith),
      value_spaces (field_width - n) (decimal k),
      value_decimal k,
    )

field_key_unused : field_key (spaces field_width) ≡ []
unfolding spaces
field_key_unused = refl

-- it tells the key at its place, if there is one
field_key_field : (ks : List ℕ) (i : ℕ) → KeysFit ks → field_key (field ks i) ≡ take 1 (drop i ks)
field_key_field ks i fit = ⊎_elim {C = field_key (field ks i) ≡ take 1 (drop i ks)}
    (λ (p : i < length ks). ap field_key (field_used ks i p) ∙ (field_key_used (get_or ks i 0) (fit i) ∙ rw (drop-cons ks i 0 p)))
    (λ (p : length ks ≤ i). ap field_key (field_unused ks i p) ∙ (field_key_unused ∙ rw (drop_of_length-le ks p)))
    (lt_or_le i (length ks))

-- ---- a line

-- a row does not begin so
first_plain : (xs ys : List ℕ) → 0 < length xs → Each Plain xs → get_or (xs ++ ys) 0 0 ≡ page_letter → ⊥
first_plain [] ys h plain e = omega arith
first_plain (x ∷ xs) ys h plain e = let few = plain.0.1 in omega arith

-- the parts of a line that are its columns
module _ (a b c : List ℕ) (long : length a ≡ column_width) (also : length b ≡ column_width) where
  first_column : take field_width (a ++ (b ++ c)) ≡ take field_width a
  first_column = take-append-le field_width a (b ++ c) (omega arith)

  second_column : take field_width (drop column_width (a ++ (b ++ c))) ≡ take field_width b
  second_column = rw (drop_at a (b ++ c) column_width long) (take-append-le field_width b c (omega arith))

  third_column : drop (2 * column_width) (a ++ (b ++ c)) ≡ c
  third_column = sym (drop-drop column_width column_width (a ++ (b ++ c))) ∙ rw (drop_at a (b ++ c) column_width long) (drop_at b c column_width also)

three : (ks : List ℕ) → take 1 (drop 0 ks) ++ (take 1 (drop 1 ks) ++ take 1 (drop 2 ks)) ≡ take row_keys ks
three [] = refl
three (a ∷ []) = refl
three (a ∷ b ∷ []) = refl
three (a ∷ b ∷ c ∷ ks) = refl

module _ (ks : List ℕ) (fit : KeysFit ks) where
  column : (i b : ℕ) → take field_width (field ks i ++ (b ∷ [])) ≡ field ks i
  column i b = take_at (field ks i) (b ∷ []) field_width (length_field ks i (fit i))

  length_column : (i b : ℕ) → length (field ks i ++ (b ∷ [])) ≡ column_width
  length_column i b = rw (length-append (field ks i), length_field ks i (fit i))

  keys_in_line_row : keys_in_line (line (row ks)) ≡ take row_keys ks
  keys_in_line_row =
      let a = field ks 0 ++ (space ∷ []) in
      let b = field ks 1 ++ (space ∷ []) in
      let c = field ks 2 ++ line_feed in
      let l = length_column 0 space in
      let m = length_column 1 space in
      let some : 0 < length (row ks) = omega (arith, (row_is_line ks fit).long) in
      let columns : keys_in_fields (a ++ (b ++ c)) ≡ take row_keys ks =
      rw (
        first_column a b c l,
        second_column a b c l m,
        third_column a b c l m,
        column 0 space,
        column 1 space,
        column 2 10,
        field_key_field ks 0 fit,
        field_key_field ks 1 fit,
        field_key_field ks 2 fit,
      ) (three ks) in
      rw (ne_eqb (get_or (line (row ks)) 0 0) page_letter (first_plain (row ks) line_feed some (plain_row ks))) (ap keys_in_fields (row_columns ks) ∙ columns)

keys_in_line_head : (number pages : ℕ) → keys_in_line (line (head_line number pages)) ≡ []
unfolding head_line padded
keys_in_line_head number pages = refl

-- ---- lines, pages, the sheet

-- with their line feeds
abbrev told : List (List ℕ) → List ℕ
told ls = keys_in_lines (map line ls)

told_append : (xs ys : List (List ℕ)) → told (xs ++ ys) ≡ told xs ++ told ys
unfolding flatten
told_append [] ys = refl
told_append (x ∷ xs) ys = rw (told_append xs ys, append_assoc (keys_in_line (line x)))

told_rows_in : (m : ℕ) (ks : List ℕ) → length ks ≤ m → KeysFit ks → told (rows ks) ≡ ks
unfolding flatten
told_rows_in zero [] h fit = rw rows_nil
told_rows_in zero (k ∷ ks) h fit = absurd (omega arith)
told_rows_in (suc m) [] h fit = rw rows_nil
told_rows_in (suc m) (k ∷ ks) h fit =
    let few = length-drop row_keys (k ∷ ks) in
    ap told (rows_turn (k ∷ ks) (omega arith))
    ∙ (ap₂ ◌++◌ (keys_in_line_row (k ∷ ks) fit) (told_rows_in m (drop row_keys (k ∷ ks)) (omega arith) (keys_fit_drop row_keys (k ∷ ks) fit))
    ∙ take-append-drop row_keys (k ∷ ks))

told_page : (number pages : ℕ) (ks : List ℕ) → KeysFit ks → told (page number pages ks) ≡ ks
unfolding flatten
told_page number pages ks fit = ap₂ ◌++◌ (keys_in_line_head number pages) (told_rows_in (length ks) ks (omega arith) fit)

told_sheet_lines : (l : List ℕ) → KeysFit l → told (sheet_lines l) ≡ l
unfolding sheet_lines
told_sheet_lines l = by_page pages (λ number ks ls. KeysFit ks → told ls ≡ ks) last more 1 l
  where
    pages : ℕ
    pages = length (page_groups l)

    last : (number : ℕ) (ks : List ℕ) → length ks ≤ page_keys → KeysFit ks → told (page number pages ks ++ []) ≡ ks
    last number ks h fit = ap told (append-nil (page number pages ks)) ∙ told_page number pages ks fit

    more : (number : ℕ) (ks : List ℕ) (ls : List (List ℕ)) → page_keys < length ks → (KeysFit (drop page_keys ks) → told ls ≡ drop page_keys ks)
        → KeysFit ks → told (page number pages (take page_keys ks) ++ ls) ≡ ks
    more number ks ls h rest fit =
        told_append (page number pages (take page_keys ks)) ls
        ∙ (ap₂ ◌++◌ (told_page number pages (take page_keys ks) (keys_fit_take page_keys ks fit)) (rest (keys_fit_drop page_keys ks fit))
        ∙ take-append-drop page_keys ks)

-- the text is parted into its lines again
lines_in_text : (ls : List (List ℕ)) → Each IsLine ls → in_groups line_size (lines_text ls) ≡ map line ls
unfolding lines_text
lines_in_text ls all = in_groups_flatten line_size (map line ls) (omega arith) (λ x i. long ls all x i)
  where
    long : (ls : List (List ℕ)) → Each IsLine ls → (x : List ℕ) → Memᴰ x (map line ls) → length x ≡ line_size
    long [] all x i = absurd (Memᴰ.not-nil i)
    long (l ∷ ls) (first, rest) x (Memᴰ.head e) = rw e (length_line l first.long)
    long (l ∷ ls) (first, rest) x (Memᴰ.tail i) = long ls rest x i

pub keys_on_sheet_text : (l : List ℕ) → KeysFit l → length l ≤ limit → keys_on (sheet_text l) ≡ l
keys_on_sheet_text l fit few = ap keys_in_lines (lines_in_text (sheet_lines l) (sheet_lines_lem l fit few)) ∙ told_sheet_lines l fit

-- equal sheets, equal keys
pub sheet_tells_keys : (l m : List ℕ) → KeysFit l → KeysFit m → length l ≤ limit → length m ≤ limit → sheet_text l ≡ sheet_text m → l ≡ m
sheet_tells_keys l m fit also few many e = sym (keys_on_sheet_text l fit few) ∙ (ap keys_on e ∙ keys_on_sheet_text m also many)
