-- What a rehearsal returns, as document 01 writes it: "A refusal returns its number, .. and zeros for any claim or count"; the number is 0 where nothing is
-- refused. The code answers a `Result`: by a view, this record. Assumes nothing.
use Rattle.std.specs.Prelude.{ℕ, Result, Ok, Err}
use Rattle.claims.specs.declared.refusal.Refusal.{Refusal}
use Rattle.claims.specs.Refusal.{refusal_number}
use Rattle.rehearsal.specs.declared.answer.Rehearsed.{Rehearsed as Told}

-- both counts after the round, and how many deliveries were made
pub record Rehearsed : Type 0 where
  pub number : ℕ
  pub left : ℕ
  pub right : ℕ
  pub deliveries : ℕ

-- "A refusal returns its number, .. and zeros for any claim or count."
abbrev pub no_rehearsal : ℕ → Rehearsed
no_rehearsal number = record { number = number; left = 0; right = 0; deliveries = 0 }

abbrev pub rehearsed_by : Result Told Refusal → Rehearsed
rehearsed_by (Ok t) = record { number = 0; left = t.left; right = t.right; deliveries = t.deliveries }
rehearsed_by (Err r) = no_rehearsal (refusal_number r)
