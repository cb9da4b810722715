-- What the number of a refusal says: it is none of an answer that was yes. Assumes nothing.
use mathlib.Core.Path.{◌≡◌, ◌∙◌, ap}
use Prim.Native.Nat.{ℕ, ◌<◌}
use native.Mathlib.Omega.{arith}
use borrow.Author.Tests.{ne_eqb}
use Rattle.claims.specs.declared.refusal.Refusal.{Refusal}
use Rattle.claims.specs.declared.refusal.Refusal.TheVariants.{OutOfOrder, LoAboveHi, CountBeyondLimit, CountBeyondSpan, WrongSum, NoRoom, NoPositions}
use Rattle.claims.specs.declared.refusal.Refusal.TheVariants.{UnionBeyondLimit, TranscriptTooShort, NoFrame, OtherVersion, WrongFrameLength}
use Rattle.claims.specs.declared.refusal.Refusal.TheVariants.{BadClaimInFrame, WrongImageLength, OutputTooShort, MiddleOutside, TooManyKeys}
use Rattle.claims.specs.Refusal.{refusal_number}
use Rattle.claims.specs.Question.{settle}

pub refusal_number_above : (r : Refusal) → 0 < refusal_number r
refusal_number_above OutOfOrder = omega arith
refusal_number_above LoAboveHi = omega arith
refusal_number_above CountBeyondLimit = omega arith
refusal_number_above CountBeyondSpan = omega arith
refusal_number_above WrongSum = omega arith
refusal_number_above NoRoom = omega arith
refusal_number_above NoPositions = omega arith
refusal_number_above UnionBeyondLimit = omega arith
refusal_number_above TranscriptTooShort = omega arith
refusal_number_above NoFrame = omega arith
refusal_number_above OtherVersion = omega arith
refusal_number_above WrongFrameLength = omega arith
refusal_number_above BadClaimInFrame = omega arith
refusal_number_above WrongImageLength = omega arith
refusal_number_above OutputTooShort = omega arith
refusal_number_above MiddleOutside = omega arith
refusal_number_above TooManyKeys = omega arith

pub refusal_number_ne : (r : Refusal) → refusal_number r ≡ 0 → ⊥
refusal_number_ne r e = omega (arith, refusal_number_above r)

-- what a call returns with it
pub settle_refusal : {A : Type 0} (r : Refusal) (done : A) (refused : ℕ → A) → settle (refusal_number r) done refused ≡ refused (refusal_number r)
settle_refusal r done refused = rw (ne_eqb (refusal_number r) 0 (refusal_number_ne r))

-- .. where the first question answered no has its number
pub settle_refused_by : {A : Type 0} {n : ℕ} (r : Refusal) (done : A) (refused : ℕ → A) → n ≡ refusal_number r → settle n done refused ≡ refused (refusal_number r)
settle_refused_by r done refused e = ap (λ (k : ℕ). settle k done refused) e ∙ settle_refusal r done refused
