-- What it means to read and to write a claim in a lent run of words (specs/Words): past the words; word by word; a claim whose count has 16 bits is read
-- from its own words. Assumes nothing.
use mathlib.Core.Path.{◌≡◌, refl, sym, ◌∙◌, ap}
use mathlib.Core.List.{List, [], ◌∷◌}
use Prim.Native.Nat.{ℕ, ◌+◌, ◌%◌, ◌≤◌, ◌<◌}
use native.Mathlib.Nat.{add-zero}
use native.Mathlib.Numerals.{add-one, add-two, add-three}
use native.Mathlib.Omega.{arith}
use borrow.Author.Tests.{le-leb, lt-leb}
use lib.ListN.{length, take, drop, get_or, set}
use lib.Seq.{get_or-drop}
use Rattle.keys.specs.Place.{put_at}
use Rattle.keys.proofs.PlaceLaws.{sets_put_at}
use Rattle.claims.specs.declared.claim.Claim.{Claim}
use Rattle.claims.specs.Claim.{no_claim}
use Rattle.claims.specs.Words.{claim_width, words_of, from_words, low_count, claim_at, put_claim}
use Rattle.claims.proofs.ClaimLaws.{claim_ext}

-- ---- the words of a claim and the claim of words

-- the words that a claim is read from are its words
pub words_of_from_words : (ws : List ℕ) → claim_width ≤ length ws → words_of (from_words ws) ≡ take claim_width ws
words_of_from_words [] h = absurd (omega arith)
words_of_from_words (a ∷ []) h = absurd (omega arith)
words_of_from_words (a ∷ (b ∷ [])) h = absurd (omega arith)
words_of_from_words (a ∷ (b ∷ (c ∷ []))) h = absurd (omega arith)
words_of_from_words (a ∷ (b ∷ (c ∷ (d ∷ ws)))) h = refl

-- ---- a claim read at a place

module _ (words : List ℕ) (at : ℕ) where
  pub claim_at_past : length words < at + claim_width → claim_at words at ≡ no_claim
  unfolding claim_at
  claim_at_past h = rw (lt-leb (at + claim_width) (length words) h)

  pub claim_at_low : at + claim_width ≤ length words → claim_at words at ≡ low_count (from_words (drop at words))
  unfolding claim_at
  claim_at_low h = rw (le-leb (at + claim_width) (length words) h)

  -- a count of 16 bits is read as it is
  pub claim_at_small : at + claim_width ≤ length words → (from_words (drop at words)).cnt < 65536 → claim_at words at ≡ from_words (drop at words)
  claim_at_small h g =
      let c : Claim = from_words (drop at words) in
      let e : c.cnt % 65536 ≡ c.cnt = omega arith in
      claim_at_low h ∙ claim_ext (low_count c) c refl refl refl e

  -- word by word
  pub claim_at_word : at + claim_width ≤ length words
      → claim_at words at ≡ record { lo = get_or words at 0; hi = get_or words (at + 1) 0; sum = get_or words (at + 2) 0; cnt = get_or words (at + 3) 0 % 65536 }
  claim_at_word h =
      let first : get_or (drop at words) 0 0 ≡ get_or words at 0 = get_or-drop at words 0 0 ∙ ap (λ (k : ℕ). get_or words k 0) (add-zero at) in
      claim_at_low h
      ∙ (λ i. record {
        lo = first i;
        hi = get_or-drop at words 1 0 i;
        sum = get_or-drop at words 2 0 i;
        cnt = get_or-drop at words 3 0 i % 65536;
      })

-- ---- a claim written at a place

module _ (words : List ℕ) (at : ℕ) (c : Claim) where
  pub put_claim_past : length words < at + claim_width → put_claim words at c ≡ words
  unfolding put_claim
  put_claim_past h = rw (lt-leb (at + claim_width) (length words) h)

  pub put_claim_fits : at + claim_width ≤ length words → put_claim words at c ≡ put_at words at (words_of c)
  unfolding put_claim
  put_claim_fits h = rw (le-leb (at + claim_width) (length words) h)

  -- word by word
  pub put_claim_set : at + claim_width ≤ length words
      → put_claim words at c ≡ set (set (set (set words at c.lo) (at + 1) c.hi) (at + 2) c.sum) (at + 3) c.cnt
  put_claim_set h = put_claim_fits h ∙ (sym (sets_put_at words at (words_of c) h) ∙ rw (add-one, add-two, add-three))
