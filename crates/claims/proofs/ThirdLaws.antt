-- The middle key of three (document 02, slip 1): what follows where it is wanted, or added. In order: it is not held; where it is added the reply is a
-- match; a match of at most three keys is never false. Not here: what is added (ReplyLaws). Assumes nothing.
use Prim.Native.Nat.{ℕ, zero, suc, ◌≤◌, ◌<◌}
use mathlib.Core.Bool.{false}
use mathlib.Core.List.{List, [], ◌∷◌, Memᴰ}
use mathlib.Core.Path.{◌≡◌, refl, sym, ap, ap₂, ◌∙◌}
use native.Mathlib.Omega.{arith}
use lib.ListN.{length}
use Rattle.keys.specs.Store.{insert, insert_all}
use Rattle.keys.proofs.Tests.{Order, less, equal, greater, order}
use Rattle.keys.proofs.Rising.{Rising, mem_length}
use Rattle.keys.proofs.Insert.{insert_after, insert_before, insert_rising, mem_insert_old}
use Rattle.claims.specs.declared.claim.Claim.{Claim}
use Rattle.claims.specs.Answer.{Answer, Match, Ask, One, Two}
use Rattle.claims.specs.Claim.{xor_all, between, middle_key}
use Rattle.claims.specs.Reply.{with_ends, third, hear, own, answer, reply, matches, false_match}
use Rattle.claims.proofs.Xor.{xor_all_told}
use Rattle.claims.proofs.Between.{inside, mem_inside, between_insert_within, length_between_inside}
use Rattle.claims.proofs.Span.{no_keys, one_key, two_keys, first_between, last_between}
use Rattle.claims.proofs.ClaimLaws.{span_claim, span_claim_passes, three_keys, claim_ext, claim_same, range_claim}
use Rattle.claims.proofs.ReplyLaws.{Wanted, Third, left_out, put_in, third_cases, with_ends_rising, with_ends_lo, with_ends_hi, own_between, own_range}
use Rattle.claims.proofs.ReplyLaws.{Answered, matched, asked, helped_one, helped_two, reply_answered, same_match}

module _ (c : Claim) (l : List ℕ) (rise : Rising l) (ordered : c.lo ≤ c.hi) where
  -- the keys with both ends
  abbrev both : List ℕ
  both = with_ends c l

  both_rise : Rising both
  both_rise = with_ends_rising c l rise

  pub own_length : (own c (with_ends c l)).cnt ≡ length (between c.lo c.hi (with_ends c l))
  own_length = ap (λ (x : Claim). x.cnt) (own_between c both both_rise ordered (with_ends_lo c l) (with_ends_hi c l))

  -- where it is wanted it is not held, since own is just lo and hi
  pub wanted_missing : Wanted c (with_ends c l) → Memᴰ (middle_key c) (with_ends c l) → ⊥
  wanted_missing w m =
      let some : 0 < length (inside c.lo c.hi both) =
      mem_length (inside c.lo c.hi both) (middle_key c) (mem_inside c.lo c.hi both (middle_key c) m w.above w.below) in
      let lt : c.lo < c.hi = omega (arith, w.above, w.below) in
      omega (arith, own_length, w.two, some, length_between_inside c.lo c.hi both both_rise lt (with_ends_lo c l) (with_ends_hi c l))

  -- where it is added own is the claim
  pub third_own : third c (with_ends c l) ≡ middle_key c ∷ [] → own c (hear c l) ≡ c
  third_own added =
      let m : ℕ = middle_key c in
      let w : Wanted c both = added_wanted (third_cases c both) added in
      let heard : hear c l ≡ insert m both = ap (λ (t : List ℕ). insert_all t both) added in
      let two : between c.lo c.hi both ≡ c.lo ∷ c.hi ∷ []
      = two_keys (between c.lo c.hi both) (sym own_length ∙ w.two)
      ∙ ap₂ (λ (x y : ℕ). x ∷ y ∷ []) (first_between c.lo c.hi both both_rise ordered (with_ends_lo c l))
      (last_between c.lo c.hi both both_rise ordered (with_ends_hi c l)) in
      let three : between c.lo c.hi (insert m both) ≡ c.lo ∷ m ∷ c.hi ∷ []
      = between_insert_within c.lo c.hi m both both_rise (omega (arith, w.above)) (omega (arith, w.below))
      ∙ (ap (insert m) two
      ∙ (insert_after m c.lo (c.hi ∷ []) w.above ∙ ap (λ (x : List ℕ). c.lo ∷ x) (insert_before m c.hi [] w.below))) in
      rw heard
      (own_range c (insert m both) (insert_rising m both both_rise) ordered
      (mem_insert_old m both c.lo (with_ends_lo c l)) (mem_insert_old m both c.hi (with_ends_hi c l))
      ∙ claim_ext (range_claim c.lo c.hi (insert m both)) c refl refl
      (ap xor_all three ∙ xor_all_told c.sum c.lo c.hi)
      (ap length three ∙ sym w.three))
    where
      added_wanted : {t : List ℕ} → Third c both t → t ≡ middle_key c ∷ [] → Wanted c both
      added_wanted left_out e = absurd (omega (arith, ap length e))
      added_wanted (put_in w space) e = w

-- and the reply a match
pub third_matches : (c : Claim) (l : List ℕ) → Rising l → c.lo ≤ c.hi → third c (with_ends c l) ≡ middle_key c ∷ [] → reply c l ≡ Match
unfolding answer
third_matches c l rise ordered added = rw (claim_same (own c (hear c l)) c (third_own c l rise ordered added))

-- ---- a match of at most three keys is never false

-- the claim of at most three keys tells them all
few_same : (a b : List ℕ) → length a ≤ 3 → span_claim a ≡ span_claim b → a ≡ b
few_same a b h e = go (order (length a) 2)
  where
    long : length b ≡ length a
    long = ap (λ (c : Claim). c.cnt) (sym e)

    -- told by a claim, both are the same
    told : (f : Claim → List ℕ) → a ≡ f (span_claim a) → b ≡ f (span_claim b) → a ≡ b
    told f p q = p ∙ (ap f e ∙ sym q)

    below : (n : ℕ) → length a ≡ n → n < 2 → a ≡ b
    below zero p g = told (λ (c : Claim). []) (no_keys a p) (no_keys b (long ∙ p))
    below (suc zero) p g = told (λ (c : Claim). c.lo ∷ []) (one_key a p) (one_key b (long ∙ p))
    below (suc (suc n)) p g = absurd (omega arith)

    go : Order (length a) 2 → a ≡ b
    go (less g) = below (length a) refl g
    go (equal p) = told (λ (c : Claim). c.lo ∷ c.hi ∷ []) (two_keys a p) (two_keys b (long ∙ p))
    go (greater g) =
        let p : length a ≡ 3 = omega arith in
        told (λ (c : Claim). c.lo ∷ middle_key c ∷ c.hi ∷ []) (three_keys a p) (three_keys b (long ∙ p))

-- A claim of at most three keys that its sender held, and any store that replies to it.
pub few_never_false : (claimed l : List ℕ) → Rising claimed → 0 < length claimed → length claimed ≤ 3 → Rising l
    → false_match claimed (span_claim claimed) l ≡ false
few_never_false claimed l rises some few rise = go (reply_answered c l rise (span_claim_passes claimed rises some (omega arith))) refl
  where
    c : Claim
    c = span_claim claimed

    unmatched : (a : Answer) → matches a ≡ false → reply c l ≡ a → false_match claimed c l ≡ false
    unmatched a f e = rw (ap matches e ∙ f)

    go : {a : Answer} → Answered c (hear c l) a → reply c l ≡ a → false_match claimed c l ≡ false
    go (matched e) f = same_match claimed c l (few_same claimed (between c.lo c.hi (hear c l)) few (sym e))
    go (asked {d = d} e g) f = unmatched (Ask d) refl f
    go (helped_one {d = d} g h e p) f = unmatched (One d) refl f
    go (helped_two {d = d} {e = x} m n g h e i j p q k) f = unmatched (Two d x) refl f
