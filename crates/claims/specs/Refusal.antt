-- Refusals: the number of the question that each one stands for, which document 01 and 02 speak of, and what a result of the code tells of number and value.
-- Assumes nothing.
use Rattle.std.specs.Prelude.{ℕ, Result, Ok, Err}
use Rattle.claims.specs.declared.refusal.Refusal.{Refusal}
use Rattle.claims.specs.declared.refusal.Refusal.TheVariants.{OutOfOrder, LoAboveHi, CountBeyondLimit, CountBeyondSpan, WrongSum, NoRoom, NoPositions}
use Rattle.claims.specs.declared.refusal.Refusal.TheVariants.{UnionBeyondLimit, TranscriptTooShort, NoFrame, OtherVersion, WrongFrameLength}
use Rattle.claims.specs.declared.refusal.Refusal.TheVariants.{BadClaimInFrame, WrongImageLength, OutputTooShort, MiddleOutside, TooManyKeys}

-- the number of the question that was answered no
abbrev pub refusal_number : Refusal → ℕ
refusal_number OutOfOrder = 1
refusal_number LoAboveHi = 2
refusal_number CountBeyondLimit = 3
refusal_number CountBeyondSpan = 4
refusal_number WrongSum = 5
refusal_number NoRoom = 6
refusal_number NoPositions = 7
refusal_number UnionBeyondLimit = 8
refusal_number TranscriptTooShort = 9
refusal_number NoFrame = 10
refusal_number OtherVersion = 11
refusal_number WrongFrameLength = 12
refusal_number BadClaimInFrame = 13
refusal_number WrongImageLength = 14
refusal_number OutputTooShort = 15
refusal_number MiddleOutside = 16
refusal_number TooManyKeys = 17

-- the number of the first question answered no, as a result tells it, or 0 where every answer was yes
abbrev pub number_told : {A : Type 0} → Result A Refusal → ℕ
number_told (Ok x) = 0
number_told (Err r) = refusal_number r

-- the value that a result tells, and on a refusal the one that stands for none
abbrev pub value_told : {A : Type 0} → A → Result A Refusal → A
value_told none (Ok x) = x
value_told none (Err r) = none
