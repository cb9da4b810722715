-- One law for each way that src/page.rt goes: a piece, and one after another; lines; the whole text. Assumes nothing.
use Prim.Native.Nat.{ℕ, suc, ◌+◌, ◌*◌, ◌≤◌, ◌<◌}
use native.Mathlib.Numerals.{add-one}
use native.Mathlib.Omega.{arith}
use mathlib.Core.List.{List, [], ◌++◌}
use mathlib.Core.Path.{◌≡◌, refl, ap, ap₂, sym, ◌∙◌}
use lib.ListN.{length, take, drop, get_or, length-map}
use Rattle.std.specs.Simd.{first_chunks}
use Rattle.std.proofs.lemmas.List.{get_or-take}
use Rattle.keys.proofs.PlaceLaws.{length_put_at, put_at_nil, put_at_zero}
use Rattle.claims.proofs.QuestionLaws.{settle_done, settle_refused}
use Rattle.rule.specs.Round.{Line}
use Rattle.rule.specs.Call.{round_by, delivery_words, record_width, records_in}
use Rattle.text.specs.Line.{refused_line}
use Rattle.text.specs.Put.{put_from, end_from, Put}
use Rattle.text.proofs.LineLaws.{length_refused_line}
use Rattle.text.proofs.PutLaws.{put_then, put_from_lem}
use Rattle.rehearsal.specs.Answer.{Rehearsed}
use Rattle.rehearsal.specs.declared.page.Page.{Page}
use Rattle.rehearsal.specs.Page.{Puts}
use Rattle.rehearsal.specs.Rehearsal.{first_bytes, second_bytes, store_in, rehearse_number, rehearsed, Rehearsal, round_words}
use Rattle.rehearsal.specs.Text.{lines, last_line}
use Rattle.rehearsal.specs.Text.{report, lent_records, deliveries_of, printed, row_at, rows, line_limit, last_limit, text_limit}
use Rattle.rehearsal.proofs.RehearsalLaws.{rehearsed_number, rehearsed_told, deliveries_fit, rehearsed_words_told}
use Rattle.rehearsal.proofs.TextLaws.{row_at_chunk, rows_lines}

-- ---- one piece, and one after another

-- what a call of `text` has put, where there is room for so much
pub puts_text : (p q : Page) (text : List ℕ) {most : ℕ} → q.out.ghost_name ≡ p.out.ghost_name → q.end ≡ end_from p.out.now p.end text
    → q.out.now ≡ put_from p.out.now p.end text
    → length text ≤ most
    → p.end + most ≤ length p.out.now
    → Puts p text most q
puts_text p q text same e f few room =
    let put = put_from_lem p.out.now p.end text e f few room in
    let long : length q.out.now ≡ length p.out.now = rw (put.after_is, length_put_at p.out.now p.end text (omega arith)) in
    record { same = same; long = long; fits = omega (arith, put.end_by); put = put }

pub puts_then : {p q r : Page} {xs ys : List ℕ} {a b : ℕ} → Puts p xs a q → Puts q ys b r → Puts p (xs ++ ys) (a + b) r
puts_then {p} {q} {r} {xs} {ys} {a} {b} s t =
    let short : Put p.out.now p.end xs (length xs) q.end q.out.now
    = record { end_is = s.put.end_is; end_by = omega (arith, s.put.end_is); after_is = s.put.after_is } in
    let room : p.end + length xs ≤ length p.out.now = omega (arith, s.put.end_is) in
    record { same = t.same ∙ s.same; long = t.long ∙ s.long; fits = t.fits; put = put_then short t.put room (omega (arith, s.put.end_by, t.put.end_by)) }

-- ---- lines one after another

pub rows_none : (words : List ℕ) (p : Page) → p.end ≤ length p.out.now → Puts p (rows 0 words) 0 p
unfolding rows
rows_none words p h = record {
  same = refl;
  long = refl;
  fits = h;
  put = record { end_is = omega arith; end_by = omega arith; after_is = sym (put_at_nil p.out.now p.end) };
}

-- one more line, of a record among the first n that were cut out of the words
pub rows_more : {p q r : Page} (words : List ℕ) (i : ℕ) (cut : List (List ℕ)) (n : ℕ) → Puts p (rows i words) (line_limit * i) q
    → cut ≡ first_chunks record_width (records_in words) words
    → i < n
    → n * record_width ≤ length words
    → Puts q (row_at (get_or (take n cut) i []) 0) line_limit r
    → Puts p (rows (i + 1) words) (line_limit * (i + 1)) r
unfolding rows
rows_more {p} {q} {r} words i cut n s e h many t =
    let within : i < records_in words = omega arith in
    let row = rw (get_or-take n cut i [] h, e, row_at_chunk (records_in words) i words [] within) at t in
    let most : line_limit * i + line_limit ≡ line_limit * suc i = omega arith in
    rw (add-one i, ← most) (puts_then s row)

-- ---- the whole text

module _ (input lent : List ℕ) (long : length lent ≡ record_width * lent_records) (r : Rehearsed) (words : List ℕ) (so : Rehearsal input lent r words) where
  records : records_in lent ≡ lent_records
  records = omega arith

  told : r ≡ rehearsed input lent_records
  told = so.told ∙ ap (rehearsed input) records

  module _ (no : r.number ≡ 0 → ⊥) where
    printed_refused : refused_line r.number ≡ printed input
    unfolding printed report
    printed_refused =
        ap (λ (x : Rehearsed). refused_line x.number) told
        ∙ sym (settle_refused (rehearsed input lent_records).number _ refused_line (λ z. no (ap (λ (x : Rehearsed). x.number) told ∙ z)))

    pub text_refused : (s t : List ℕ) (n : ℕ) → length s ≡ text_limit → r.number < 256 → n ≡ end_from s 0 (refused_line r.number)
        → t ≡ put_from s 0 (refused_line r.number) → Put s 0 (printed input) text_limit n t
    text_refused s t n long small e f =
        let short = length_refused_line r.number (omega arith) in
        rw printed_refused at (put_from_lem s 0 (refused_line r.number) {most = text_limit} e f (omega arith) (omega arith))

  module _ (done : r.number ≡ 0) where
    number_zero : (rehearsed input lent_records).number ≡ 0
    number_zero = sym (ap (λ (x : Rehearsed). x.number) told) ∙ done

    none : rehearse_number input lent_records ≡ 0
    none = sym (rehearsed_number input lent_records) ∙ number_zero

    many : r.deliveries ≡ length (deliveries_of input)
    many =
        ap (λ (x : Rehearsed). x.deliveries) (told ∙ rehearsed_told input lent_records none)
        ∙ sym (length-map (round_by (store_in (first_bytes input)) (store_in (second_bytes input))).lines (λ (x : Line). x.delivery))

    -- the lines fit
    pub told_fits : r.deliveries ≤ lent_records
    told_fits = rw (ap (λ (x : Rehearsed). x.deliveries) (told ∙ rehearsed_told input lent_records none)) (deliveries_fit input lent_records none)

    words_are : words ≡ round_words (store_in (first_bytes input)) (store_in (second_bytes input)) lent
    words_are = so.words ∙ rehearsed_words_told input lent (rw records none)

    printed_told : rows r.deliveries words ++ last_line r.left r.right r.deliveries ≡ printed input
    unfolding printed report
    printed_told =
        let ds = deliveries_of input in
        let t = rehearsed input lent_records in
        let p : rows r.deliveries words ≡ lines ds = rw (many, words_are, put_at_zero) (rows_lines ds (drop (length (delivery_words ds)) lent)) in
        ap₂ ◌++◌ p (ap (λ (x : Rehearsed). last_line x.left x.right x.deliveries) told)
        ∙ sym (settle_done t.number (lines ds ++ last_line t.left t.right t.deliveries) refused_line number_zero)

    pub text_told : {p q u : Page} → p.end ≡ 0 → Puts p (rows r.deliveries words) (line_limit * r.deliveries) q
        → Puts q (last_line r.left r.right r.deliveries) last_limit u
        → Put p.out.now 0 (printed input) text_limit u.end u.out.now
    text_told {p} {q} {u} front a b =
        let fits = told_fits in
        let put = rw (front, printed_told) at ((puts_then a b).put) in
        record { end_is = put.end_is; end_by = omega (arith, put.end_by); after_is = put.after_is }
