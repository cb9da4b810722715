-- Laws of one line (specs/Sheet): how long its pieces are where the numbers fit their fields, and of which characters they are; a row looks at three keys;
-- rows and head lines are lines. Assumes nothing.
use Prim.Native.Nat.{ℕ, zero, suc, ◌+◌, ◌-◌, ◌^◌, ◌≤◌, ◌<◌}
use native.Mathlib.Omega.{arith}
use mathlib.Core.List.{List, [], ◌∷◌, ◌++◌, append_assoc}
use mathlib.Core.Logic.{⊎_elim}
use mathlib.Core.Path.{◌≡◌, refl, sym, subst}
use borrow.Author.Tests.{lt-ltb, le-ltb}
use lib.ListN.{length, take, drop, get_or, length-append, length-take, length-replicate}
use lib.Seq.{get_or-take, get_or-drop, take_at, drop_at}
use Rattle.keys.proofs.Tests.{lt_or_le}
use Rattle.wire.specs.Run.{Each}
use Rattle.wire.proofs.RunLaws.{each_mem, mem_each, each_append, each_replicate}
use Rattle.text.specs.Decimal.{digit, decimal}
use Rattle.text.specs.Line.{line_feed, space}
use Rattle.text.proofs.DecimalLaws.{length_decimal_most, decimal_digits}
use Rattle.sheet.specs.Sheet.{line_width, line_size, field_width, number_width, row_keys, spaces, right_aligned, field, row}
use Rattle.sheet.specs.Sheet.{page_word, of_word, padded, head_line, line, IsLine}
use Rattle.sheet.specs.Laid.{KeysFit, HeadGiven}

-- ---- spaces

pub length_spaces : (n : ℕ) → length (spaces n) ≡ n
unfolding spaces
length_spaces n = length-replicate n space

-- ---- a number in its field

pub length_right_aligned : (width n : ℕ) → length (decimal n) ≤ width → length (right_aligned width n) ≡ width
unfolding right_aligned
length_right_aligned width n h = rw (length-append, length_spaces) (omega arith)

module _ (ks : List ℕ) (i : ℕ) where
  pub field_used : i < length ks → field ks i ≡ right_aligned field_width (get_or ks i 0)
  unfolding field
  field_used h = rw (lt-ltb i (length ks) h)

  pub field_unused : length ks ≤ i → field ks i ≡ spaces field_width
  unfolding field
  field_unused h = rw (le-ltb i (length ks) h)

  pub length_field : get_or ks i 0 < 2 ^ 64 → length (field ks i) ≡ field_width
  length_field h = ⊎_elim {C = length (field ks i) ≡ field_width}
      (λ (p : i < length ks). rw (field_used p) (length_right_aligned field_width (get_or ks i 0) (length_decimal_most (get_or ks i 0) h)))
      (λ (p : length ks ≤ i). rw (field_unused p) (length_spaces field_width))
      (lt_or_le i (length ks))

-- ---- characters that are shown, and among them those from the space to `9`

abbrev Shown : ℕ → Type 0
Shown c = space ≤ c

abbrev pub Plain : ℕ → Type 0
Plain c = (space ≤ c) × (c ≤ digit 9)

plain_spaces : (n : ℕ) → Each Plain (spaces n)
unfolding spaces
plain_spaces n = each_replicate Plain n space (omega arith, omega arith)

pub plain_right_aligned : (width n : ℕ) → Each Plain (right_aligned width n)
unfolding right_aligned
plain_right_aligned width n =
    each_append Plain (spaces (width - length (decimal n))) (decimal n) (plain_spaces (width - length (decimal n)))
    (each_mem Plain (decimal n) (λ c i. let (low, high) = decimal_digits n c i in (omega arith, omega arith)))

plain_field : (ks : List ℕ) (i : ℕ) → Each Plain (field ks i)
plain_field ks i = ⊎_elim {C = Each Plain (field ks i)}
    (λ (p : i < length ks). subst (Each Plain) (sym (field_used ks i p)) (plain_right_aligned field_width (get_or ks i 0)))
    (λ (p : length ks ≤ i). subst (Each Plain) (sym (field_unused ks i p)) (plain_spaces field_width))
    (lt_or_le i (length ks))

-- ---- three keys

-- a field and the character behind it
abbrev pub column_width : ℕ
column_width = field_width + 1

pub plain_row : (ks : List ℕ) → Each Plain (row ks)
unfolding row
plain_row ks =
    let one : Plain space = (omega arith, omega arith) in
    each_append Plain (field ks 0) (space ∷ (field ks 1 ++ (space ∷ field ks 2))) (plain_field ks 0)
    (one, each_append Plain (field ks 1) (space ∷ field ks 2) (plain_field ks 1) (one, plain_field ks 2))

-- the three columns of a line, each with the character behind it
pub row_columns : (ks : List ℕ)
    → line (row ks) ≡ (field ks 0 ++ (space ∷ [])) ++ ((field ks 1 ++ (space ∷ [])) ++ (field ks 2 ++ line_feed))
unfolding row
row_columns ks = rw (append_assoc (field ks 0), append_assoc (field ks 1), append_assoc (field ks 0), append_assoc (field ks 1))

pub length_row : (ks : List ℕ) → KeysFit ks → length (row ks) ≡ line_width
unfolding row
length_row ks fit =
    let a = length_field ks 0 (fit 0) in
    let b = length_field ks 1 (fit 1) in
    let c = length_field ks 2 (fit 2) in
    rw (length-append, length-append, a, b, c)

-- it is a line
each_shown : (xs : List ℕ) → Each Plain xs → Each Shown xs
each_shown xs p = each_mem Shown xs (λ c i. (mem_each Plain xs p c i).0)

pub row_is_line : (ks : List ℕ) → KeysFit ks → IsLine (row ks)
row_is_line ks fit = record { long = length_row ks fit; shown = each_shown (row ks) (plain_row ks) }

-- of more keys it looks at the first three
module _ (ks : List ℕ) where
  field_take : (i : ℕ) → i < row_keys → field (take row_keys ks) i ≡ field ks i
  field_take i h = ⊎_elim {C = field (take row_keys ks) i ≡ field ks i}
      (λ (p : i < length ks).
      rw (field_used ks i p, field_used (take row_keys ks) i (omega (arith, length-take row_keys ks)), get_or-take row_keys ks i 0 h))
      (λ (p : length ks ≤ i). rw (field_unused ks i p, field_unused (take row_keys ks) i (omega (arith, length-take row_keys ks))))
      (lt_or_le i (length ks))

  pub row_take : row (take row_keys ks) ≡ row ks
  unfolding row
  row_take = rw (field_take 0 (omega arith), field_take 1 (omega arith), field_take 2 (omega arith))

-- ---- keys of 64 bits stay such

pub keys_fit_drop : (n : ℕ) (ks : List ℕ) → KeysFit ks → KeysFit (drop n ks)
keys_fit_drop n ks fit i = rw (get_or-drop n ks i 0) (fit (n + i))

pub keys_fit_take : (n : ℕ) (ks : List ℕ) → KeysFit ks → KeysFit (take n ks)
keys_fit_take zero ks fit i = omega arith
keys_fit_take (suc n) [] fit i = omega arith
keys_fit_take (suc n) (k ∷ ks) fit zero = fit 0
keys_fit_take (suc n) (k ∷ ks) fit (suc i) = keys_fit_take n ks (λ j. fit (suc j)) i

pub keys_fit_parts : (first rest : List ℕ) → KeysFit (first ++ rest) → KeysFit first × KeysFit rest
keys_fit_parts first rest fit = (
  rw (take_at first rest (length first) refl) at (keys_fit_take (length first) (first ++ rest) fit),
  rw (drop_at first rest (length first) refl) at (keys_fit_drop (length first) (first ++ rest) fit),
)

-- ---- the line above a page

-- what stands on it
abbrev pub head_width : ℕ
head_width = length page_word + number_width + (length of_word + number_width)

module _ (number pages : ℕ) where
  -- its two numbered words, what is left and the line feed
  pub head_pieces : HeadGiven number pages → line (head_line number pages)
      ≡ (page_word ++ right_aligned number_width number) ++ ((of_word ++ right_aligned number_width pages) ++ (spaces (line_width - head_width) ++ line_feed))
  unfolding head_line padded
  head_pieces g =
      let n = right_aligned number_width number in
      let p = right_aligned number_width pages in
      let a = length_right_aligned number_width number g.number_fits in
      let b = length_right_aligned number_width pages g.pages_fit in
      let text = page_word ++ (n ++ (of_word ++ p)) in
      let l : length text ≡ head_width = rw (length-append page_word, length-append n, length-append of_word, a, b) in
      rw (l, append_assoc page_word, append_assoc of_word, append_assoc page_word, append_assoc n, append_assoc of_word, append_assoc page_word, append_assoc n, append_assoc of_word, append_assoc p)

  length_head_line : HeadGiven number pages → length (head_line number pages) ≡ line_width
  unfolding head_line padded
  length_head_line g =
      let n = right_aligned number_width number in
      let p = right_aligned number_width pages in
      let a = length_right_aligned number_width number g.number_fits in
      let b = length_right_aligned number_width pages g.pages_fit in
      let text = page_word ++ (n ++ (of_word ++ p)) in
      let l : length text ≡ head_width = rw (length-append page_word, length-append n, length-append of_word, a, b) in
      rw (length-append text, l, length_spaces)

  -- it is a line
  shown_head_line : Each Shown (head_line number pages)
  unfolding head_line padded
  shown_head_line =
      let n = right_aligned number_width number in
      let p = right_aligned number_width pages in
      let text = page_word ++ (n ++ (of_word ++ p)) in
      let last : Each Shown (of_word ++ p) =
      each_append Shown of_word p (omega arith, (omega arith, (omega arith, (omega arith, tt)))) (each_shown p (plain_right_aligned number_width pages)) in
      let first : Each Shown text = each_append Shown page_word (n ++ (of_word ++ p)) (omega arith, (omega arith, (omega arith, (omega arith, (omega arith, tt)))))
      (each_append Shown n (of_word ++ p) (each_shown n (plain_right_aligned number_width number)) last) in
      each_append Shown text (spaces (line_width - length text)) first (each_shown (spaces (line_width - length text)) (plain_spaces (line_width - length text)))

  pub head_is_line : HeadGiven number pages → IsLine (head_line number pages)
  head_is_line g = record { long = length_head_line g; shown = shown_head_line }

-- with its line feed
pub length_line : (x : List ℕ) → length x ≡ line_width → length (line x) ≡ line_size
length_line x h = rw (length-append x, h)
