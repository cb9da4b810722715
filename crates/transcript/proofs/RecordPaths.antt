-- Records in a lent run of words (src/record.rt): a record written, over the definitions of specs/Core. Assumes nothing.
use Prim.Native.Nat.{ℕ, ◌+◌, ◌*◌, ◌≤◌, ◌<◌}
use mathlib.Core.List.{List}
use denote.Enum.Declared.{tag_of}
use mathlib.Core.Path.{◌≡◌, refl, ap, ◌∙◌}
use native.Mathlib.Omega.{arith}
use borrow.Author.Tests.{lt-ltb}
use lib.ListN.{length, set, length-set}
use Rattle.keys.proofs.PlaceLaws.{put_at_cons}
use Rattle.claims.specs.declared.claim.Claim.{Claim}
use Rattle.claims.specs.Words.{claim_width, words_of, put_claim}
use Rattle.claims.proofs.WordsLaws.{put_claim_fits}
use Rattle.rule.specs.Call.{record_width, records_in}
use Rattle.transcript.specs.contracts.record.End.{the_type}
use Rattle.transcript.specs.declared.record.End.{End}
use Rattle.transcript.specs.declared.record.End.TheVariants.{Left, Right}
use Rattle.transcript.specs.Core.{sender_of, log_with, put_record}

-- an end's number, as the code casts it
pub cast_is : (e : End) → tag_of the_type e ≡ sender_of e
cast_is Left = refl
cast_is Right = refl

-- `put_record`

module _ (words : List ℕ) (at sender : ℕ) (c : Claim) where
  pub put_some : at < records_in words → (n : ℕ) → n ≡ sender
      → (after : List ℕ) → after ≡ put_claim (set words (at * record_width) n) (at * record_width + 1) c
      → log_with after (at + 1) ≡ put_record (log_with words at) sender c
  unfolding put_record
  put_some h n same after e =
      let base : ℕ = at * record_width in
      let room : base + 1 + claim_width ≤ length (set words base sender) = omega (arith, length-set words base sender) in
      rw (lt-ltb at (records_in words) h)
      (ap (λ (ws : List ℕ). log_with ws (at + 1))
      (e
      ∙ (ap (λ (x : ℕ). put_claim (set words base x) (base + 1) c) same
      ∙ (put_claim_fits (set words base sender) (base + 1) c room ∙ put_at_cons words base sender (words_of c) (omega arith)))))
