-- Which answer a claim gets, told by counts alone: the claim is that of the keys from lo to hi, or counts more than they are, or fewer. Where one of two
-- stores has all keys of the other, these are all cases. Assumes nothing.
use Prim.Native.Nat.{ℕ, ◌<◌}
use mathlib.Core.Bool.{Bool, true, false}
use mathlib.Core.List.{List, Memᴰ}
use mathlib.Core.Path.{◌≡◌, refl, ap, ◌∙◌}
use native.Mathlib.Omega.{arith}
use borrow.Author.Tests.{lt-ltb, le-ltb}
use lib.ListN.{length}
use Rattle.keys.proofs.Rising.{Rising}
use Rattle.claims.specs.declared.claim.Claim.{Claim}
use Rattle.claims.specs.Answer.{Match, Ask}
use Rattle.claims.specs.Claim.{between}
use Rattle.claims.specs.Reply.{same, answer}
use Rattle.claims.proofs.Between.{inside}
use Rattle.claims.proofs.QuestionLaws.{Passes}
use Rattle.claims.proofs.ClaimLaws.{span_claim, same_claim, claim_same}
use Rattle.claims.proofs.ReplyLaws.{help_by, answer_by_lem}

same_cnt : (c d : Claim) → (c.cnt ≡ d.cnt → ⊥) → same c d ≡ false
same_cnt c d f = go (same c d) refl
  where
    go : (t : Bool) → same c d ≡ t → t ≡ false
    go true e = absurd (f (ap (λ (x : Claim). x.cnt) (same_claim c d e)))
    go false e = refl

module _ (c : Claim) (l : List ℕ) (rises : Rising l) (passes : Passes c) (lo : Memᴰ c.lo l) (hi : Memᴰ c.hi l) where
  -- what is held from lo to hi
  abbrev held : List ℕ
  held = between c.lo c.hi l

  pub answer_match : span_claim held ≡ c → answer c l ≡ Match
  answer_match e = answer_by_lem c l rises passes lo hi ∙ rw (claim_same (span_claim held) c e)

  pub answer_ask : length held < c.cnt → answer c l ≡ Ask (span_claim held)
  answer_ask h = answer_by_lem c l rises passes lo hi ∙ rw (same_cnt (span_claim held) c (λ e. omega arith), lt-ltb (length held) c.cnt h)

  pub answer_help : c.cnt < length held → answer c l ≡ help_by (inside c.lo c.hi l)
  answer_help h =
      answer_by_lem c l rises passes lo hi ∙ rw (same_cnt (span_claim held) c (λ e. omega arith), le-ltb (length held) c.cnt (omega arith))
