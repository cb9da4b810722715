-- One law for each way that src/refused.rt goes: the word, the d digits of the number, the line feed. Assumes nothing.
use Prim.Native.Nat.{ℕ, ◌+◌, ◌≤◌, ◌<◌}
use native.Mathlib.Omega.{arith}
use mathlib.Core.List.{List, ◌++◌, append_assoc}
use mathlib.Core.Path.{◌≡◌, ap, sym, ◌∙◌, refl}
use lib.ListN.{length, set, drop, length-append}
use Rattle.keys.specs.Place.{put_at}
use Rattle.keys.proofs.PlaceLaws.{length_put_at, put_at_zero, put_at_one, put_at_then}
use Rattle.text.specs.Decimal.{decimal}
use Rattle.text.specs.Line.{line_feed, refused_word, refused_line}
use Rattle.text.specs.Put.{put_from, end_from}
use Rattle.text.proofs.LineLaws.{refused_line_length}
use Rattle.text.proofs.PutLaws.{from_room, from_none}

-- `refused` and a space, which code knows as `WORD`
abbrev word_width : ℕ
word_width = length refused_word

module _ (s : List ℕ) (number : ℕ) {d : ℕ} (many : d ≡ length (decimal number)) where
  line_length : length (refused_line number) ≡ word_width + d + 1
  line_length = omega (arith, refused_line_length number)

  pub refused_none : length s ≤ word_width + d → (0 ≡ end_from s 0 (refused_line number)) × (s ≡ put_from s 0 (refused_line number))
  refused_none h = let (ends, puts) = from_none s 0 (refused_line number) (omega (arith, line_length)) in (sym ends, sym puts)

  -- t has the digits, which end at word_width + d
  pub refused_put : word_width + d < length s → (r : ℕ) → r + length (decimal number) ≡ word_width + d
      → {word t : List ℕ} → word ≡ refused_word → t ≡ put_at (word ++ drop word_width s) r (decimal number)
      → (word_width + d + 1 ≡ end_from s 0 (refused_line number)) × (set t (word_width + d) 10 ≡ put_from s 0 (refused_line number))
  unfolding refused_line
  refused_put room r e {word} {t} w f =
      let place : r ≡ word_width = omega arith in
      let l = line_length in
      let long = length-append refused_word (decimal number) in
      let first : word ++ drop word_width s ≡ put_at s 0 refused_word = rw (w, put_at_zero) in
      let both =
      put_at_then s 0 word_width refused_word (decimal number) refl (omega arith) first
      (f ∙ ap (λ (k : ℕ). put_at (word ++ drop word_width s) k (decimal number)) place) in
      let same : length t ≡ length s = rw (both, length_put_at s 0 (refused_word ++ decimal number) (omega arith)) in
      let fed =
      put_at_then s 0 (word_width + d) (refused_word ++ decimal number) line_feed (omega arith) (omega arith) both
      (put_at_one t (word_width + d) 10 (omega arith)) in
      let (ends, puts) = from_room s 0 (refused_line number) (omega arith) in
      let end : word_width + d + 1 ≡ 0 + length (refused_line number) = omega arith in
      (end ∙ sym ends, fed ∙ (ap (put_at s 0) (append_assoc refused_word (decimal number) line_feed) ∙ sym puts))
