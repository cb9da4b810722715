-- A length in bytes as a call returns it, and none where the call is refused: "A refusal returns its number, .. and zeros for any claim or count."
-- Assumes nothing.
use Rattle.std.specs.Prelude.{ℕ}
use Rattle.wire.specs.Answer.{Length}

abbrev pub no_length : ℕ → Length
no_length number = record { number = number; length = 0 }
