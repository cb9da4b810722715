-- Laws of lines (specs/Line): how long the line of a refusal is. Assumes nothing.
use Prim.Native.Nat.{ℕ, ◌+◌, ◌^◌, ◌≤◌, ◌<◌}
use native.Mathlib.Omega.{arith}
use mathlib.Core.List.{◌++◌}
use mathlib.Core.Path.{◌≡◌}
use lib.ListN.{length, length-append}
use Rattle.text.specs.Decimal.{decimal, digit_limit}
use Rattle.text.specs.Line.{line_feed, refused_word, refused_line}
use Rattle.text.proofs.DecimalLaws.{length_decimal_most}

pub refused_line_length : (number : ℕ) → length (refused_line number) ≡ length refused_word + length (decimal number) + 1
unfolding refused_line
refused_line_length number =
    let e = length-append refused_word (decimal number ++ line_feed) in
    let f = length-append (decimal number) line_feed in
    omega arith

pub length_refused_line : (number : ℕ) → number < 2 ^ 64 → length (refused_line number) ≤ length refused_word + digit_limit + 1
length_refused_line number h = omega (arith, refused_line_length number, length_decimal_most number h)
