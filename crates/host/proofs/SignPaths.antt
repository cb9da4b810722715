-- Numbers as signed ones of 64 bits: a length stays what it is, and a question's number is turned round. Then what a result tells. Assumes nothing.
use Prim.Native.Nat.{ℕ, zero, suc, ◌^◌, ◌<◌}
use native.Mathlib.Omega.{arith}
use mathlib.Core.Path.{◌≡◌, subst, ◌∙◌}
use lib.Dec.{lit<}
use lib.IntN.{ℤ, pos}
use mir.Syntax.{w64}
use mir.Val.{SFits, to_z, of_z}
use mir.Facts.{to_z-of_z}
use Rattle.std.specs.Prelude.{Result, Ok, Err, IfOk}
use Rattle.claims.specs.declared.refusal.Refusal.{Refusal}
use Rattle.claims.specs.declared.refusal.Refusal.TheVariants.{OutOfOrder, LoAboveHi, CountBeyondLimit, CountBeyondSpan, WrongSum, NoRoom, NoPositions}
use Rattle.claims.specs.declared.refusal.Refusal.TheVariants.{UnionBeyondLimit, TranscriptTooShort, NoFrame, OtherVersion, WrongFrameLength}
use Rattle.claims.specs.declared.refusal.Refusal.TheVariants.{BadClaimInFrame, WrongImageLength, OutputTooShort, MiddleOutside, TooManyKeys}
use Rattle.claims.specs.Refusal.{refusal_number}
use Rattle.host.specs.Call.{minus}
use Rattle.host.specs.Known.{told, Tells}

-- a signed result, as the machine reads it back
pub returned : {z y : ℤ} → z ≡ y → SFits w64 y → to_z w64 (of_z w64 z) ≡ y
returned e f = rw e (to_z-of_z {w = w64} f)

pub fits_pos : (n : ℕ) → n < 2 ^ 63 → SFits w64 (pos n)
fits_pos n h = record { sfits = omega arith }

pub fits_minus : (n : ℕ) → n < 256 → SFits w64 (minus n)
fits_minus zero h = record { sfits = omega arith }
fits_minus (suc n) h = record { sfits = omega arith }

-- ---- what a result tells

refusal_few : (r : Refusal) → refusal_number r < 256
refusal_few OutOfOrder = lit< tt
refusal_few LoAboveHi = lit< tt
refusal_few CountBeyondLimit = lit< tt
refusal_few CountBeyondSpan = lit< tt
refusal_few WrongSum = lit< tt
refusal_few NoRoom = lit< tt
refusal_few NoPositions = lit< tt
refusal_few UnionBeyondLimit = lit< tt
refusal_few TranscriptTooShort = lit< tt
refusal_few NoFrame = lit< tt
refusal_few OtherVersion = lit< tt
refusal_few WrongFrameLength = lit< tt
refusal_few BadClaimInFrame = lit< tt
refusal_few WrongImageLength = lit< tt
refusal_few OutputTooShort = lit< tt
refusal_few MiddleOutside = lit< tt
refusal_few TooManyKeys = lit< tt

fits_told : (r : Result ℕ Refusal) → IfOk r (λ n. n < 2 ^ 63) → SFits w64 (told r)
fits_told (Ok n) h = fits_pos n h
fits_told (Err e) h = fits_minus (refusal_number e) (refusal_few e)

-- handed on: y is what a result tells that tells z
pub handed_on : {z : ℤ} {r : Result ℕ Refusal} → Tells z r → {y : ℤ} → y ≡ told r → to_z w64 (of_z w64 y) ≡ z
handed_on {z} {r} t e = returned (e ∙ t.value) (subst (SFits w64) t.value (fits_told r t.small))
