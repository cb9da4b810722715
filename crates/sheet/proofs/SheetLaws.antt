-- Laws of the lines of a sheet and of its text (specs/Sheet). In order: the text of lines; rows; pages; how many lines there are; how long the text is.
-- Assumes nothing.
use Prim.Native.Nat.{ℕ, zero, suc, ◌+◌, ◌*◌, ◌≤◌, ◌<◌, min}
use native.Mathlib.Omega.{arith}
use mathlib.Core.List.{List, [], ◌∷◌, ◌++◌, map, flatten, append-nil, append_assoc}
use mathlib.Core.Logic.{⊎_elim}
use mathlib.Core.Path.{◌≡◌, refl, ap, sym, ◌∙◌, subst}
use lib.ListN.{length, take, drop, length-append, length-map, length-take, length-drop, drop_of_length-le}
use lib.Seq.{take_all}
use Rattle.keys.specs.Store.{limit}
use Rattle.keys.proofs.Tests.{lt_or_le}
use Rattle.wire.specs.Run.{Each}
use Rattle.wire.proofs.RunLaws.{each_append}
use Rattle.text.specs.Groups.{in_groups, group_count}
use Rattle.text.proofs.DecimalLaws.{length_decimal_below}
use Rattle.text.proofs.GroupsLaws.{in_groups_nil, in_groups_turn, in_groups_cut, length_in_groups}
use Rattle.sheet.specs.Sheet.{line_size, row_keys, page_keys, row, rows, page, page_groups, pages_from, sheet_lines, line, lines_text, sheet_text, IsLine}
use Rattle.sheet.specs.Sheet.{page_count, sheet_length}
use Rattle.sheet.specs.Call.{sheet_limit}
use Rattle.sheet.specs.Laid.{KeysFit, HeadGiven}
use Rattle.sheet.proofs.LineLaws.{row_is_line, row_take, keys_fit_drop, keys_fit_take, head_is_line, length_line}

-- ---- the text of lines

pub lines_text_nil : lines_text [] ≡ []
unfolding lines_text flatten
lines_text_nil = refl

pub lines_text_cons : (x : List ℕ) (xs : List (List ℕ)) → lines_text (x ∷ xs) ≡ line x ++ lines_text xs
unfolding lines_text flatten
lines_text_cons x xs = refl

pub lines_text_append : (xs ys : List (List ℕ)) → lines_text (xs ++ ys) ≡ lines_text xs ++ lines_text ys
lines_text_append [] ys = rw lines_text_nil
lines_text_append (x ∷ xs) ys =
    lines_text_cons x (xs ++ ys) ∙ rw (lines_text_append xs ys, lines_text_cons x xs, append_assoc (line x))

pub length_lines_text : (ls : List (List ℕ)) → Each IsLine ls → length (lines_text ls) ≡ line_size * length ls
length_lines_text [] all = rw lines_text_nil
length_lines_text (x ∷ xs) (first, rest) =
    rw (lines_text_cons x xs, length-append (line x), length_line x first.long, length_lines_text xs rest) (omega arith)

-- ---- rows

pub rows_nil : rows [] ≡ []
unfolding rows
rows_nil = rw (in_groups_nil {A = ℕ} row_keys)

pub rows_turn : (ks : List ℕ) → 0 < length ks → rows ks ≡ row ks ∷ rows (drop row_keys ks)
unfolding rows
rows_turn ks h = rw (in_groups_turn row_keys ks (omega arith) h, row_take ks)

-- .. as an iterator over chunks cuts them off
pub rows_cut : (ks first rest : List ℕ) → ks ≡ first ++ rest → length first ≡ min row_keys (length ks) → 0 < length ks → rows ks ≡ row first ∷ rows rest
unfolding rows
rows_cut ks first rest cut size some = ap (map row) (in_groups_cut row_keys ks first rest (omega arith) cut size some)

pub length_rows : (ks : List ℕ) → length (rows ks) ≡ group_count (length ks) row_keys
unfolding rows
length_rows ks = length-map (in_groups row_keys ks) row ∙ length_in_groups row_keys ks (omega arith)

rows_are_lines_in : (m : ℕ) (ks : List ℕ) → length ks ≤ m → KeysFit ks → Each IsLine (rows ks)
rows_are_lines_in zero [] h fit = subst (Each IsLine) (sym rows_nil) tt
rows_are_lines_in zero (k ∷ ks) h fit = absurd (omega arith)
rows_are_lines_in (suc m) [] h fit = subst (Each IsLine) (sym rows_nil) tt
rows_are_lines_in (suc m) (k ∷ ks) h fit =
    let few = length-drop row_keys (k ∷ ks) in
    subst (Each IsLine) (sym (rows_turn (k ∷ ks) (omega arith)))
    (row_is_line (k ∷ ks) fit, rows_are_lines_in m (drop row_keys (k ∷ ks)) (omega arith) (keys_fit_drop row_keys (k ∷ ks) fit))

pub rows_are_lines : (ks : List ℕ) → KeysFit ks → Each IsLine (rows ks)
rows_are_lines ks fit = rows_are_lines_in (length ks) ks (omega arith) fit

-- ---- pages

pub page_groups_some : (ks : List ℕ) → 0 < length ks → page_groups ks ≡ in_groups page_keys ks
page_groups_some [] h = absurd (omega arith)
page_groups_some (k ∷ ks) h = refl

-- the only page
pub page_groups_last : (ks : List ℕ) → length ks ≤ page_keys → page_groups ks ≡ ks ∷ []
page_groups_last [] h = refl
page_groups_last (k ∷ ks) h =
    in_groups_turn page_keys (k ∷ ks) (omega arith) (omega arith)
    ∙ rw (take_all page_keys (k ∷ ks) h, drop_of_length-le (k ∷ ks) h, in_groups_nil {A = ℕ} page_keys)

-- a full page, and those of the rest
pub page_groups_more : (ks : List ℕ) → page_keys < length ks → page_groups ks ≡ take page_keys ks ∷ page_groups (drop page_keys ks)
page_groups_more ks h =
    page_groups_some ks (omega arith)
    ∙ (in_groups_turn page_keys ks (omega arith) (omega arith)
    ∙ ap (λ (g : List (List ℕ)). take page_keys ks ∷ g) (sym (page_groups_some (drop page_keys ks) (omega (arith, length-drop page_keys ks)))))

pub length_page_groups : (ks : List ℕ) → length (page_groups ks) ≡ page_count (length ks)
length_page_groups [] = refl
length_page_groups (k ∷ ks) =
    let e : group_count (suc (length ks)) page_keys ≡ page_count (suc (length ks)) = omega arith in
    length_in_groups page_keys (k ∷ ks) (omega arith) ∙ e

-- page numbers fit their fields
pub head_given : (number pages : ℕ) → number ≤ pages → pages < 10000 → HeadGiven number pages
head_given number pages h k =
    record { number_fits = length_decimal_below 3 number (omega arith); pages_fit = length_decimal_below 3 pages (omega arith) }

-- What holds of the last page, and of a full one followed by pages for which it holds, holds of all pages: `P number ks ls` is about the lines ls of the pages
-- from a number on, of which ks are the keys.
module _ (pages : ℕ) (P : ℕ → List ℕ → List (List ℕ) → Type 0)
    (last : (number : ℕ) (ks : List ℕ) → length ks ≤ page_keys → P number ks (page number pages ks ++ []))
    (more : (number : ℕ) (ks : List ℕ) (ls : List (List ℕ)) → page_keys < length ks → P (suc number) (drop page_keys ks) ls
    → P number ks (page number pages (take page_keys ks) ++ ls)) where
  last_page : (number : ℕ) (ks : List ℕ) → length ks ≤ page_keys → P number ks (pages_from number pages (page_groups ks))
  last_page number ks h =
      subst (λ (g : List (List ℕ)). P number ks (pages_from number pages g)) (sym (page_groups_last ks h)) (last number ks h)

  by_page_in : (m number : ℕ) (ks : List ℕ) → length ks ≤ m → P number ks (pages_from number pages (page_groups ks))
  by_page_in zero number ks h = last_page number ks (omega arith)
  by_page_in (suc m) number ks h =
      ⊎_elim {C = P number ks (pages_from number pages (page_groups ks))}
      (λ (p : page_keys < length ks).
      let few = length-drop page_keys ks in
      subst (λ (g : List (List ℕ)). P number ks (pages_from number pages g)) (sym (page_groups_more ks p))
      (more number ks (pages_from (suc number) pages (page_groups (drop page_keys ks))) p (by_page_in m (suc number) (drop page_keys ks) (omega arith))))
      (last_page number ks)
      (lt_or_le page_keys (length ks))

  pub by_page : (number : ℕ) (ks : List ℕ) → P number ks (pages_from number pages (page_groups ks))
  by_page number ks = by_page_in (length ks) number ks (omega arith)

-- ---- how many lines there are

pub length_sheet_lines : (l : List ℕ) → length (sheet_lines l) ≡ page_count (length l) + group_count (length l) row_keys
unfolding sheet_lines
length_sheet_lines l = by_page (length (page_groups l)) (λ number ks ls. length ls ≡ page_count (length ks) + group_count (length ks) row_keys) last more 1 l
  where
    last : (number : ℕ) (ks : List ℕ) → length ks ≤ page_keys
        → length (page number (length (page_groups l)) ks ++ []) ≡ page_count (length ks) + group_count (length ks) row_keys
    last number ks h = ap length (append-nil (page number (length (page_groups l)) ks)) ∙ rw (length_rows ks) (omega arith)

    more : (number : ℕ) (ks : List ℕ) (ls : List (List ℕ)) → page_keys < length ks
        → length ls ≡ page_count (length (drop page_keys ks)) + group_count (length (drop page_keys ks)) row_keys
        → length (page number (length (page_groups l)) (take page_keys ks) ++ ls) ≡ page_count (length ks) + group_count (length ks) row_keys
    more number ks ls h e =
        let t = length-take page_keys ks in
        let d = length-drop page_keys ks in
        rw (length-append (page number (length (page_groups l)) (take page_keys ks)) ls, length_rows (take page_keys ks), e, t, d) (omega arith)

-- ---- every line has 62 characters and a line feed

pub sheet_lines_lem : (l : List ℕ) → KeysFit l → length l ≤ limit → Each IsLine (sheet_lines l)
unfolding sheet_lines
sheet_lines_lem l fit few = by_page pages (λ number ks ls. KeysFit ks → number + page_count (length ks) ≤ suc pages → Each IsLine ls) last more 1 l fit
    (omega (arith, length_page_groups l))
  where
    pages : ℕ
    pages = length (page_groups l)

    few_pages : pages < 10000
    few_pages = omega (arith, length_page_groups l)

    last : (number : ℕ) (ks : List ℕ) → length ks ≤ page_keys → KeysFit ks → number + page_count (length ks) ≤ suc pages
        → Each IsLine (page number pages ks ++ [])
    last number ks h fits n =
        let head = head_is_line number pages (head_given number pages (omega arith) few_pages) in
        each_append IsLine (page number pages ks) [] (head, rows_are_lines ks fits) tt

    more : (number : ℕ) (ks : List ℕ) (ls : List (List ℕ)) → page_keys < length ks
        → (KeysFit (drop page_keys ks) → suc number + page_count (length (drop page_keys ks)) ≤ suc pages → Each IsLine ls)
        → KeysFit ks → number + page_count (length ks) ≤ suc pages → Each IsLine (page number pages (take page_keys ks) ++ ls)
    more number ks ls h rest fits n =
        let d = length-drop page_keys ks in
        let head = head_is_line number pages (head_given number pages (omega arith) few_pages) in
        each_append IsLine (page number pages (take page_keys ks)) ls (head, rows_are_lines (take page_keys ks) (keys_fit_take page_keys ks fits))
        (rest (keys_fit_drop page_keys ks fits) (omega arith))

-- ---- how long the text is

pub length_sheet_text : (l : List ℕ) → KeysFit l → length l ≤ limit → length (sheet_text l) ≡ sheet_length (length l)
length_sheet_text l fit few = length_lines_text (sheet_lines l) (sheet_lines_lem l fit few) ∙ ap (λ (n : ℕ). line_size * n) (length_sheet_lines l)

pub sheet_length_limit : (m : ℕ) → m ≤ limit → sheet_length m ≤ sheet_limit
sheet_length_limit m h = omega arith
