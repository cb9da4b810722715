-- One law for each way that src/layout.rt goes. In order: one piece, and one after another; spaces; a number in its field; a row; the head line; rows one
-- after the other; a page; pages one after the other. Assumes nothing.
use Prim.Native.Nat.{ℕ, suc, ◌+◌, ◌-◌, ◌^◌, ◌≤◌, ◌<◌, min}
use native.Mathlib.Nat.{zero-add}
use native.Mathlib.Numerals.{add-one}
use native.Mathlib.Omega.{arith}
use borrow.Author.Tests.{ltb-true}
use lib.Dec.{ltb}
use borrow.Rule.Slice.PartMut.{put_mid}
use mathlib.Core.Bool.{true, false}
use mathlib.Core.List.{List, [], ◌∷◌, ◌++◌, append-nil}
use mathlib.Core.Path.{◌≡◌, refl, ap, sym, ◌∙◌}
use lib.ListN.{length, replicate, get_or, length-append, length-replicate}
use Rattle.std.proofs.lemmas.List.{nil_from_length, get_or_read}
use Rattle.keys.specs.Store.{limit}
use Rattle.keys.specs.Place.{put_at}
use Rattle.keys.proofs.PlaceLaws.{length_put_at, put_at_append, put_at_behind}
use Rattle.text.specs.Decimal.{decimal}
use Rattle.text.proofs.DecimalLaws.{length_decimal_most}
use Rattle.text.specs.Line.{line_feed, space}
use Rattle.text.specs.Put.{put_from, end_from, put_before, start_before}
use Rattle.text.specs.Groups.{in_groups}
use Rattle.text.proofs.GroupsLaws.{in_groups_nil, in_groups_cut}
use Rattle.text.proofs.PutLaws.{put_part, from_room, before_room, Left, left_all, left_more, left_none}
use Rattle.sheet.specs.Sheet.{line_width, line_size, field_width, number_width, row_keys, page_keys, spaces, right_aligned, field, row, page_word}
use Rattle.sheet.specs.Sheet.{of_word, head_line, rows, page, page_groups, pages_from, line, lines_text, sheet_lines, sheet_text, page_count}
use Rattle.sheet.specs.Laid.{KeysFit, HeadGiven, PageGiven}
use Rattle.sheet.specs.Puts.{Puts}
use Rattle.sheet.specs.declared.layout.Sheet.{Sheet}
use Rattle.sheet.proofs.LineLaws.{length_spaces, length_right_aligned, field_used, row_columns, row_is_line}
use Rattle.sheet.proofs.LineLaws.{keys_fit_parts, head_width, head_pieces, head_is_line, length_line}
use Rattle.sheet.proofs.SheetLaws.{lines_text_nil, lines_text_cons, lines_text_append, rows_nil, rows_cut}
use Rattle.sheet.proofs.SheetLaws.{page_groups_some, page_groups_last, length_page_groups, head_given}

-- ---- one piece, and one after another

pub puts_at : (p q : Sheet) (text : List ℕ) (size : ℕ) → q.out.ghost_name ≡ p.out.ghost_name → length text ≡ size → q.end ≡ p.end + size
    → q.out.now ≡ put_at p.out.now p.end text
    → p.end + size ≤ length p.out.now
    → Puts p text size q
puts_at p q text size same sized ends put room =
    let long : length q.out.now ≡ length p.out.now = rw (put, length_put_at p.out.now p.end text (omega (arith, sized))) in
    record { same = same; long = long; sized = sized; ends = ends; fits = omega (arith, ends, long); put = put }

-- what a call of `text` has put
pub puts_text : (p q : Sheet) (text : List ℕ) → q.out.ghost_name ≡ p.out.ghost_name → q.end ≡ end_from p.out.now p.end text
    → q.out.now ≡ put_from p.out.now p.end text
    → p.end + length text ≤ length p.out.now
    → Puts p text (length text) q
puts_text p q text same e f room =
    let (ends, puts) = from_room p.out.now p.end text room in
    puts_at p q text (length text) same refl (e ∙ ends) (f ∙ puts) room

pub puts_then : {p q r : Sheet} {xs ys : List ℕ} {a b : ℕ} → Puts p xs a q → Puts q ys b r → Puts p (xs ++ ys) (a + b) r
puts_then {p} {q} {r} {xs} {ys} {a} {b} s t =
    let room : p.end + a ≤ length p.out.now = omega (arith, s.ends, s.long, s.fits) in
    record {
      same = t.same ∙ s.same;
      long = t.long ∙ s.long;
      sized = rw (length-append xs, s.sized, t.sized);
      ends = omega (arith, s.ends, t.ends);
      fits = t.fits;
      put = t.put ∙ rw (s.put, s.ends) (put_at_append p.out.now p.end xs ys a s.sized room);
    }

-- ---- spaces

pub puts_spaces : (p q : Sheet) (n m : ℕ) {t : List ℕ} → q.out.ghost_name ≡ p.out.ghost_name → q.end ≡ p.end + n → t ≡ replicate m space → m ≡ n
    → q.out.now ≡ put_mid p.end (p.end + n - p.end) p.out.now t
    → p.end + n ≤ length p.out.now
    → Puts p (spaces n) n q
unfolding spaces
puts_spaces p q n m same ends e many put room =
    let put_n = put ∙ rw (e, many) (put_part p.out.now p.end (p.end + n - p.end) (replicate n space) (rw length-replicate (omega arith))) in
    puts_at p q (replicate n space) n same (length-replicate n space) ends put_n room

-- ---- a number in its field: t has its digits, from `start` on

module _ (s : List ℕ) (at width n : ℕ) (few : length (decimal n) ≤ width) (room : at + width ≤ length s) (start : ℕ)
    (begin : start ≡ start_before s (at + width) (decimal n)) where
  right_start : start ≡ at + (width - length (decimal n))
  right_start = let e : at + width - length (decimal n) ≡ at + (width - length (decimal n)) = omega arith in
      begin ∙ ((before_room s (at + width) (decimal n) room (omega arith)).0 ∙ e)

  pub right_after : at ≤ start
  right_after = omega (arith, right_start)

  module _ (t : List ℕ) (digits : t ≡ put_before s (at + width) (decimal n)) where
    right_digits : t ≡ put_at s (at + (width - length (decimal n))) (decimal n)
    right_digits = let e : at + width - length (decimal n) ≡ at + (width - length (decimal n)) = omega arith in
        digits ∙ ((before_room s (at + width) (decimal n) room (omega arith)).1 ∙ ap (λ (k : ℕ). put_at s k (decimal n)) e)

    pub right_room : at + (start - at) ≤ length t
    right_room =
        let e = right_start in
        rw (right_digits, length_put_at s (at + (width - length (decimal n))) (decimal n) (omega arith)) (omega arith)

    right_put : (u : List ℕ) → u ≡ put_at t at (spaces (start - at)) → u ≡ put_at s at (right_aligned width n)
    unfolding right_aligned
    right_put u f =
        let many : start - at ≡ width - length (decimal n) = omega (arith, right_start) in
        f ∙ rw (many, right_digits)
        (put_at_behind s at (spaces (width - length (decimal n))) (decimal n) (width - length (decimal n))
        (length_spaces (width - length (decimal n))) (omega arith))

pub puts_right : (p r : Sheet) (width n start : ℕ) (t : List ℕ) → length (decimal n) ≤ width → p.end + width ≤ length p.out.now
    → start ≡ start_before p.out.now (p.end + width) (decimal n)
    → t ≡ put_before p.out.now (p.end + width) (decimal n)
    → r.out.ghost_name ≡ p.out.ghost_name
    → r.out.now ≡ put_at t p.end (spaces (start - p.end))
    → r.end ≡ p.end + width
    → Puts p (right_aligned width n) width r
puts_right p r width n start t few room begin digits same put ends =
    puts_at p r (right_aligned width n) width same (length_right_aligned width n few) ends
    (right_put p.out.now p.end width n few room start begin t digits r.out.now put) room

-- ---- the field of a key

module _ (ks : List ℕ) (i : ℕ) where
  pub unused_put : {p q : Sheet} → false ≡ ltb i (length ks) → Puts p (spaces field_width) field_width q → Puts p (field ks i) field_width q
  unfolding field
  unused_put h put = rw (← h) put

  module _ (k : ℕ) (h : true ≡ ltb i (length ks)) (read : k ≡ get_or ks i k) where
    used_key : k ≡ get_or ks i 0
    used_key = get_or_read ks i k (ltb-true i (length ks) (sym h)) read 0

    pub used_fits : get_or ks i 0 < 2 ^ 64 → length (decimal k) ≤ field_width
    used_fits fit = length_decimal_most k (rw (← used_key) at fit)

    pub used_put : {p q : Sheet} → Puts p (right_aligned field_width k) field_width q → Puts p (field ks i) field_width q
    used_put put =
        let e : right_aligned field_width k ≡ field ks i = ap (right_aligned field_width) used_key ∙ sym (field_used ks i (ltb-true i (length ks) (sym h))) in
        rw e at put

-- ---- a row: its three columns

pub row_put : {p q₁ q₂ q₃ q₄ q₅ r : Sheet} (ks : List ℕ) → Puts p (field ks 0) field_width q₁ → Puts q₁ (space ∷ []) 1 q₂
    → Puts q₂ (field ks 1) field_width q₃
    → Puts q₃ (space ∷ []) 1 q₄
    → Puts q₄ (field ks 2) field_width q₅
    → Puts q₅ line_feed 1 r
    → Puts p (line (row ks)) line_size r
row_put ks a b c d e f = rw (row_columns ks) (puts_then (puts_then a b) (puts_then (puts_then c d) (puts_then e f)))

-- ---- the line above a page

pub head_put : {p q r u v : Sheet} (number pages : ℕ) → HeadGiven number pages
    → Puts p (page_word ++ right_aligned number_width number) (length page_word + number_width) q
    → Puts q (of_word ++ right_aligned number_width pages) (length of_word + number_width) r
    → Puts r (spaces (p.end + line_width - r.end)) (p.end + line_width - r.end) u
    → Puts u line_feed 1 v
    → Puts p (line (head_line number pages)) line_size v
head_put {p} {q} {r} {u} {v} number pages g a b c d =
    let left : p.end + line_width - r.end ≡ line_width - head_width = omega (arith, a.ends, b.ends) in
    let blank : Puts r (spaces (line_width - head_width)) (line_width - head_width) u = rw left at c in
    rw (head_pieces number pages g) (puts_then a (puts_then b (puts_then blank d)))

-- ---- rows, one after the other: what is left, those of the keys `rest`, makes up the whole

pub record RowsLeft (p : Sheet) (ks : List ℕ) (q : Sheet) (rest : List ℕ) : Type 0 where
  pub fit : KeysFit rest
  pub same : q.out.ghost_name ≡ p.out.ghost_name
  pub left : Left p.out.now p.end (lines_text (rows ks)) q.out.now q.end (lines_text (rows rest))

module _ (p : Sheet) (ks : List ℕ) (room : p.end + length (lines_text (rows ks)) ≤ length p.out.now) where
  module _ (q : Sheet) (rest : List ℕ) (so : RowsLeft p ks q rest) where
    pub rows_done : length rest ≡ 0 → Puts p (lines_text (rows ks)) (length (lines_text (rows ks))) q
    rows_done h =
        let e : lines_text (rows rest) ≡ [] = rw (nil_from_length rest h, rows_nil) lines_text_nil in
        let (ends, put) = left_none (rw e at so.left) in
        puts_at p q (lines_text (rows ks)) (length (lines_text (rows ks))) so.same refl ends put room

    -- the keys of a row are cut off
    module _ (part after : List ℕ) (cut : rest ≡ part ++ after) (size : length part ≡ min row_keys (length rest)) (some : 0 < length rest) where
      rows_fit : KeysFit part × KeysFit after
      rows_fit = keys_fit_parts part after (rw cut at so.fit)

      rows_split : lines_text (rows rest) ≡ line (row part) ++ lines_text (rows after)
      rows_split = ap lines_text (rows_cut rest part after cut size some) ∙ lines_text_cons (row part) (rows after)

      rows_size : length (line (row part)) ≡ line_size
      rows_size = length_line (row part) (row_is_line part rows_fit.0).long

      pub rows_room : q.end + line_size ≤ length q.out.now
      rows_room =
          let l = ap length rows_split ∙ length-append (line (row part)) (lines_text (rows after)) in
          omega (arith, rows_size, so.left.ends, so.left.long)

      pub rows_more : {r : Sheet} → Puts q (line (row part)) line_size r → RowsLeft p ks r after
      rows_more t = record {
        fit = rows_fit.1;
        same = t.same ∙ so.same;
        left =
            left_more so.left (line (row part)) (lines_text (rows after)) rows_split room t.put
            (t.ends ∙ ap (λ (n : ℕ). q.end + n) (sym rows_size));
      }

-- ---- a page: the line above it, and its rows

module _ (p : Sheet) (ks : List ℕ) (number pages : ℕ) (given : PageGiven p.end ks number pages (length p.out.now)) where
  page_text : lines_text (page number pages ks) ≡ line (head_line number pages) ++ lines_text (rows ks)
  page_text = lines_text_cons (head_line number pages) (rows ks)

  head_size : length (line (head_line number pages)) ≡ line_size
  head_size = length_line (head_line number pages) (head_is_line number pages given.head).long

  page_size : length (lines_text (page number pages ks)) ≡ line_size + length (lines_text (rows ks))
  page_size =
      ap length page_text
      ∙ (length-append (line (head_line number pages)) (lines_text (rows ks)) ∙ ap (λ (n : ℕ). n + length (lines_text (rows ks))) head_size)

  pub page_head_room : p.end + line_size ≤ length p.out.now
  page_head_room = omega (arith, page_size, given.fits)

  module _ {q : Sheet} (head : Puts p (line (head_line number pages)) line_size q) where
    pub page_rows_room : q.end + length (lines_text (rows ks)) ≤ length q.out.now
    page_rows_room = omega (arith, page_size, given.fits, head.ends, head.long)

    pub page_put : {r : Sheet} → Puts q (lines_text (rows ks)) (length (lines_text (rows ks))) r
        → Puts p (lines_text (page number pages ks)) (length (lines_text (page number pages ks))) r
    page_put rest = let both = puts_then head rest in rw (page_size, page_text) both

-- ---- pages, one after the other: what is left, those of the keys `rest`, makes up the whole

pub record PagesLeft (p : Sheet) (ks : List ℕ) (q : Sheet) (pages number : ℕ) (rest : List ℕ) : Type 0 where
  pub numbers : number + length (in_groups page_keys rest) ≡ pages
  pub same : q.out.ghost_name ≡ p.out.ghost_name
  pub left : Left p.out.now 0 (sheet_text ks) q.out.now q.end (lines_text (pages_from (suc number) pages (in_groups page_keys rest)))

module _ (ks : List ℕ) {pages : ℕ} (all : pages ≡ page_count (length ks)) (few : length ks ≤ limit) where
  pages_all : pages ≡ length (page_groups ks)
  pages_all = all ∙ sym (length_page_groups ks)

  -- the only page, where there is no key
  module _ (none : length ks ≡ 0) where
    only_text : sheet_text ks ≡ lines_text (page 1 pages ks)
    unfolding sheet_lines
    only_text = rw (pages_all, page_groups_last ks (omega arith), append-nil)

    pub only_given : (s : List ℕ) → length (sheet_text ks) ≤ length s → PageGiven 0 ks 1 pages (length s)
    only_given s room = record { head = head_given 1 pages (omega arith) (omega arith); fits = rw (← only_text, zero-add) room }

    pub only_put : (s : List ℕ) {t : List ℕ} → t ≡ put_at s 0 (lines_text (page 1 pages ks)) → t ≡ put_at s 0 (sheet_text ks)
    only_put s e = e ∙ ap (put_at s 0) (sym only_text)

  module _ (p : Sheet) (room : length (sheet_text ks) ≤ length p.out.now) where
    pub pages_none : p.end ≡ 0 → 0 < length ks → (number : ℕ) (rest : List ℕ) → number ≡ 0 → rest ≡ ks → PagesLeft p ks p pages number rest
    unfolding sheet_lines
    pages_none front some number rest z e = rw (z, e) record {
      numbers = omega (arith, pages_all, ap length (page_groups_some ks some));
      same = refl;
      left = rw (front, pages_all, ← page_groups_some ks some) (left_all p.out.now 0 (sheet_text ks));
    }

    module _ (q : Sheet) (number : ℕ) (rest : List ℕ) (so : PagesLeft p ks q pages number rest) where
      pub pages_done : length rest ≡ 0 → q.out.now ≡ put_at p.out.now 0 (sheet_text ks)
      pages_done h =
          let e : lines_text (pages_from (suc number) pages (in_groups page_keys rest)) ≡ [] =
          rw (nil_from_length rest h, in_groups_nil {A = ℕ} page_keys) lines_text_nil in
          (left_none (rw e at so.left)).1

      -- the keys of a page are cut off
      module _ (part after : List ℕ) (cut : rest ≡ part ++ after) (size : length part ≡ min page_keys (length rest)) (some : 0 < length rest) where
        groups_split : in_groups page_keys rest ≡ part ∷ in_groups page_keys after
        groups_split = in_groups_cut page_keys rest part after (omega arith) cut size some

        pages_split : lines_text (pages_from (suc number) pages (in_groups page_keys rest))
            ≡ lines_text (page (suc number) pages part) ++ lines_text (pages_from (suc (suc number)) pages (in_groups page_keys after))
        pages_split =
            ap (λ (g : List (List ℕ)). lines_text (pages_from (suc number) pages g)) groups_split
            ∙ lines_text_append (page (suc number) pages part) (pages_from (suc (suc number)) pages (in_groups page_keys after))

        pub pages_given : PageGiven q.end part (number + 1) pages (length q.out.now)
        pages_given =
            let l =
            ap length pages_split
            ∙ length-append (lines_text (page (suc number) pages part)) (lines_text (pages_from (suc (suc number)) pages (in_groups page_keys after))) in
            rw (add-one number) record {
              head = head_given (suc number) pages (omega (arith, so.numbers, ap length groups_split)) (omega arith);
              fits = omega (arith, so.left.ends, so.left.long);
            }

        pub pages_more : {r : Sheet} → Puts q (lines_text (page (number + 1) pages part)) (length (lines_text (page (number + 1) pages part))) r
            → PagesLeft p ks r pages (number + 1) after
        pages_more {r} t = rw (add-one number) record {
          numbers = omega (arith, so.numbers, ap length groups_split);
          same = t.same ∙ so.same;
          left =
              left_more so.left (lines_text (page (suc number) pages part)) (lines_text (pages_from (suc (suc number)) pages (in_groups page_keys after)))
              pages_split (omega arith) (rw (add-one number) at t.put) (rw (add-one number) at t.ends);
        }
