-- A claim of the end that has all keys (`counting`): one delivery where its receiver has the claimed keys once it heard the claim, and otherwise two and what
-- the claims of the help cost. Assumes nothing.
use Prim.Native.Nat.{ℕ, suc, ◌+◌, ◌≤◌, ◌<◌}
use mathlib.Core.List.{List, [], ◌∷◌, Memᴰ}
use mathlib.Core.Logic.{⊎_elim}
use mathlib.Core.Path.{◌≡◌, sym, ap, ap₂, ◌∙◌, subst}
use native.Mathlib.Omega.{arith}
use lib.ListN.{length}
use Rattle.keys.proofs.Tests.{lt_or_le}
use Rattle.keys.proofs.Rising.{Rising, Sub, sub_refl, rising_same}
use Rattle.claims.specs.declared.claim.Claim.{Claim}
use Rattle.claims.specs.Answer.{Answer}
use Rattle.claims.specs.Claim.{between}
use Rattle.claims.specs.Reply.{hear, reply, claims_of}
use Rattle.claims.proofs.Between.{inside, between_rising, sub_between}
use Rattle.claims.proofs.Span.{first, last, first_between, last_between}
use Rattle.claims.proofs.Stretch.{Stretch, stretch_rising, stretch_between}
use Rattle.claims.proofs.QuestionLaws.{Passes}
use Rattle.claims.proofs.ClaimLaws.{span_claim}
use Rattle.claims.proofs.ReplyLaws.{hear_rising, hear_lo, hear_hi, hear_sub}
use Rattle.claims.proofs.CountLaws.{answer_match, answer_ask}
use Rattle.rule.specs.Round.{End, other, Pair, keys_at, Entry, entry, waits, delivered, Run}
use Rattle.rule.proofs.Pair.{keys_at_receiver, keys_at_sender, delivered_rises, delivered_within}
use Rattle.rule.proofs.Entry.{Sound, sound_entry, sound_limit}
use Rattle.rule.proofs.Deliver.{adding_within}
use Rattle.rule.proofs.Half.{Halfway, run_all_nil, run_all_cons}
use Rattle.meeting.proofs.Counting.{FullEnd, full_end_halfway, cost, count, Helped, helping}

-- what its receiver has of the claimed range once it heard the claim
abbrev pub has_then : End → Pair → List ℕ → List ℕ
has_then s p w = between (first w) (last w) (hear (span_claim w) (keys_at (other s) p))

-- both stores then
abbrev pub after_claim : End → List ℕ → Pair → List ℕ → Pair
after_claim s u p w = delivered (entry s u (span_claim w)) p

pub data Counted (s : End) (u : List ℕ) (p : Pair) (w : List ℕ) : Type 0 where
  -- it has the keys
  match : length w ≤ length (has_then s p w) → count s u p w ≡ 1 → Counted s u p w
  -- it has fewer: it asks, and is helped
  ask : (n : ℕ) → length (has_then s p w) < length w → count s u p w ≡ suc (suc n) → length w ≡ length (inside (first w) (last w) u) + 2
      → Helped u (inside (first w) (last w) u) (count s u (after_claim s u p w)) n → Counted s u p w

module _ (s : End) (u : List ℕ) (p : Pair) (y : FullEnd s u p) (w : List ℕ) (t : Stretch u w) where
  abbrev c : Claim
  c = span_claim w

  abbrev e : Entry
  e = entry s u c

  abbrev k : List ℕ
  k = hear c (keys_at (other s) p)

  abbrev v : List ℕ
  v = has_then s p w

  sound : Sound p e
  sound = sound_entry p s u w y.whole (subst (λ (l : List ℕ). Sub u l) (sym y.full) (sub_refl u)) t.some t.whole

  way : Halfway p (e ∷ [])
  way = full_end_halfway s u p e y sound

  passes : Passes c
  passes = sound_limit p e u sound y.within y.whole y.fits

  k_rises : Rising k
  k_rises = hear_rising c (keys_at (other s) p) (y.rises (other s))

  k_u : Sub k u
  k_u = hear_sub c (keys_at (other s) p) u (adding_within u p e sound y.within) (y.within (other s))

  lo : Memᴰ c.lo k
  lo = hear_lo c (keys_at (other s) p)

  hi : Memᴰ c.hi k
  hi = hear_hi c (keys_at (other s) p)

  pub claim_full_end : FullEnd s u (after_claim s u p w)
  claim_full_end = record {
    whole = y.whole;
    fits = y.fits;
    rises = delivered_rises e p y.rises;
    full = keys_at_sender e p ∙ y.full;
    within = delivered_within e p u (adding_within u p e sound y.within) y.within;
  }

  -- one delivery, and what the answer to it costs
  one_more : {b : Answer} → reply c (keys_at (other s) p) ≡ b → count s u p w ≡ suc (cost (delivered e p) (waits (other s) k (claims_of b)))
  one_more i =
      ap (λ (x : Run). length x.lines) (run_all_cons p e [] way) ∙ ap (λ (x : Answer). suc (cost (delivered e p) (waits (other s) k (claims_of x)))) i

  pub counting : Counted s u p w
  counting = ⊎_elim {C = Counted s u p w} fewer enough (lt_or_le (length v) (length w))
    where
      enough : length w ≤ length v → Counted s u p w
      enough h =
          let i : v ≡ w
          = rising_same v w (between_rising (first w) (last w) k k_rises) (stretch_rising u w y.whole t)
          (subst (λ (l : List ℕ). Sub v l) t.whole (sub_between (first w) (last w) k u k_u)) h in
          match h
          (one_more (answer_match c k k_rises passes lo hi (ap span_claim i)) ∙ ap (λ (x : Run). suc (length x.lines)) (run_all_nil (delivered e p)))

      fewer : length v < length w → Counted s u p w
      fewer h =
          let f : first v ≡ first w = first_between (first w) (last w) k k_rises passes.ordered lo in
          let l : last v ≡ last w = last_between (first w) (last w) k k_rises passes.ordered hi in
          let n : length (between (first v) (last v) u) ≡ length w = ap length (ap₂ (λ (a b : ℕ). between a b u) f l ∙ t.whole) in
          let j : inside (first v) (last v) u ≡ inside (first w) (last w) u = ap₂ (λ (a b : ℕ). inside a b u) f l in
          let o = helping s u (delivered e p) claim_full_end k v (sym (keys_at_receiver e p)) (stretch_between k (first w) (last w) k_rises passes.ordered lo hi)
          (omega arith) in
          ask o.0 h
          (one_more (answer_ask c k k_rises passes lo hi h) ∙ ap suc o.1)
          (sym n ∙ (o.2 ∙ ap (λ (m : List ℕ). length m + 2) j))
          (subst (λ (m : List ℕ). Helped u m (count s u (delivered e p)) o.0) j o.3)
