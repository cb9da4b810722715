-- What the calls return, as document 01 speaks of it: "A refusal returns its number, the given store or node, and zeros for any claim or count." A number is
-- that of the first question answered no, or 0. Code tells a refusal by an `Err`, and changes the store that is lent to it: after each of these records stands
-- the view that reads it from what a call returns and leaves. Assumes nothing.
use Rattle.std.specs.Prelude.{ℕ, Result, Ok, Err}
use Rattle.keys.specs.declared.store.Store.{Store}
use Rattle.claims.specs.declared.answer.Answer as code
use Rattle.claims.specs.declared.answer.Answer.TheVariants as told
use Rattle.claims.specs.declared.claim.Claim.{Claim}
use Rattle.claims.specs.declared.refusal.Refusal.{Refusal}
use Rattle.claims.specs.Refusal.{refusal_number, number_told, value_told}
use Rattle.claims.specs.Claim.{no_claim}

-- The answer to one claim. The store stands beside it, in `Replied`.
pub data Answer : Type 0 where
  Refused : ℕ → Answer
  Match : Answer
  Ask : Claim → Answer
  One : Claim → Answer
  Two : Claim → Claim → Answer

-- what an answer of the code says: none of those is a refusal
abbrev pub said : code.Answer → Answer
said told.Match = Match
said (told.Ask c) = Ask c
said (told.One c) = One c
said (told.Two c d) = Two c d

abbrev pub answer_told : Result code.Answer Refusal → Answer
answer_told (Ok a) = said a
answer_told (Err r) = Refused (refusal_number r)

pub record Entered : Type 0 where
  pub number : ℕ
  pub store : Store

abbrev pub entered_by : Store → Result (Unit {0}) Refusal → Entered
entered_by s r = record { number = number_told r; store = s }

pub record Made : Type 0 where
  pub number : ℕ
  pub claim : Claim

abbrev pub made_by : Result Claim Refusal → Made
made_by r = record { number = number_told r; claim = value_told no_claim r }

pub record Replied : Type 0 where
  pub store : Store
  pub answer : Answer

abbrev pub replied_by : Store → Result code.Answer Refusal → Replied
replied_by s r = record { store = s; answer = answer_told r }
