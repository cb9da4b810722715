-- One delivery in a round: `delivered` and `answers` of Round. In order: it adds only keys of the union; claims of spans of a store wait soundly, so
-- the answers do; they weigh at least 1 less than what was delivered. `u` is the union of both stores. Assumes nothing.
use Prim.Native.Nat.{ℕ, ◌+◌, ◌-◌, ◌≤◌, ◌<◌}
use mathlib.Core.List.Memᴰ
use mathlib.Core.List.{List, [], ◌∷◌, Memᴰ}
use mathlib.Core.Path.{◌≡◌, refl, sym, ap, ◌∙◌, subst}
use native.Mathlib.Omega.{arith}
use lib.ListN.{length}
use Rattle.keys.specs.Store.{limit}
use Rattle.keys.proofs.Rising.{Rising, Sub, sub_refl, rising_length}
use Rattle.claims.specs.declared.claim.Claim.{Claim}
use Rattle.claims.specs.Answer.{Answer}
use Rattle.claims.specs.Claim.{between, middle_key}
use Rattle.claims.specs.Reply.{adding, hear, reply, claims_of}
use Rattle.claims.proofs.Between.{inside, between_rising, length_between_within, length_between_two, length_sub_between}
use Rattle.claims.proofs.Span.{first, last}
use Rattle.claims.proofs.QuestionLaws.{Passes}
use Rattle.claims.proofs.ClaimLaws.{span_claim, middle_key_span, range_claim, span_claim_range}
use Rattle.claims.proofs.ReplyLaws.{adding_span, hear_rising, hear_old, hear_lo, hear_hi, Answered, matched}
use Rattle.claims.proofs.ReplyLaws.{asked, helped_one, helped_two, reply_answered, Spanned, reply_spanned}
use Rattle.rule.specs.Round.{End, other, Pair, keys_at, Entry, entry, waits, receiver, keys_before, delivered, answers}
use Rattle.rule.proofs.Pair.{Rises, Within, other_other, keys_at_receiver, keys_at_sender}
use Rattle.rule.proofs.Entry.{Sound, sound_ends, sound_cnt, sound_sub_between, sound_within, sound_limit, AllSound}
use Rattle.rule.proofs.Entry.{sound_entry, weight, weights, weight_le, weight_ge, weight_full, weight_less, weight_least}

-- ---- what is added

pub mem_lo : (u : List ℕ) (p : Pair) (e : Entry) → Sound p e → Within p u → Memᴰ e.claim.lo u
mem_lo u p e s w = sound_within u p e s w e.claim.lo (sound_ends p e s e.claim.lo (Memᴰ.head refl))

pub mem_hi : (u : List ℕ) (p : Pair) (e : Entry) → Sound p e → Within p u → Memᴰ e.claim.hi u
mem_hi u p e s w = sound_within u p e s w e.claim.hi (sound_ends p e s e.claim.hi (Memᴰ.tail (Memᴰ.head refl)))

-- all that a claim which waits adds, to whatever store, was held when it was made
sound_adding : (p : Pair) (e : Entry) (l : List ℕ) → Sound p e → Sub (adding e.claim l) e.claimed
sound_adding p e l s = subst (λ (c : Claim). Sub (adding c l) e.claimed) (sym s.is) (adding_span e.claimed l s.some)

-- .. and so was its middle key, whether it is added or not
pub sound_middle : (p : Pair) (e : Entry) → Sound p e → e.claim.cnt ≡ 3 → Memᴰ (middle_key e.claim) e.claimed
sound_middle p e s three =
    subst (λ (c : Claim). Memᴰ (middle_key c) e.claimed) (sym s.is) (middle_key_span e.claimed (sym (sound_cnt p e s) ∙ three))

pub adding_within : (u : List ℕ) (p : Pair) (e : Entry) → Sound p e → Within p u → Sub (adding e.claim (keys_before e p)) u
adding_within u p e s w k m = sound_within u p e s w k (sound_adding p e (keys_before e p) s k m)

-- ---- the answers are sound

pub waits_sound : (p : Pair) (s : End) (l : List ℕ) (cs : List Claim) → Rising l → Sub l (keys_at s p) → ((d : Claim) → Memᴰ d cs → Spanned l d) →
    AllSound p (waits s l cs)
waits_sound p s l [] r h f e m = absurd (Memᴰ.not-nil m)
waits_sound p s l (c ∷ cs) r h f e (Memᴰ.head i) =
    let t : Spanned l c = f c (Memᴰ.head refl) in
    let a : Sound p (entry s l (span_claim t.keys)) = sound_entry p s l t.keys r h t.some (sym t.whole) in
    subst (Sound p) (ap (entry s l) (sym t.claim) ∙ sym i) a
waits_sound p s l (c ∷ cs) r h f e (Memᴰ.tail m) = waits_sound p s l cs r h (λ d n. f d (Memᴰ.tail n)) e m

pub answers_sound : (u : List ℕ) (p : Pair) (e : Entry) → Sound p e → Rises p → Within p u → Rising u → length u ≤ limit →
    AllSound (delivered e p) (answers e p)
answers_sound u p e s r w ru h =
    waits_sound (delivered e p) (receiver e) (hear e.claim (keys_before e p)) (claims_of (reply e.claim (keys_before e p)))
    (hear_rising e.claim (keys_before e p) (r (receiver e)))
    (subst (λ (l : List ℕ). Sub (hear e.claim (keys_before e p)) l) (sym (keys_at_receiver e p)) (sub_refl (hear e.claim (keys_before e p))))
    (reply_spanned e.claim (keys_before e p) (r (receiver e)) (sound_limit p e u s w ru h))

-- ---- the answers weigh less

-- the answers go back to the sender, whose keys are as they were
pub keys_at_back : (e : Entry) (p : Pair) → keys_at (other (receiver e)) (delivered e p) ≡ keys_at e.sender p
keys_at_back e p = ap (λ (s : End). keys_at s (delivered e p)) (other_other e.sender) ∙ keys_at_sender e p

pub answers_weight : (u : List ℕ) (p : Pair) (e : Entry) → Sound p e → Rises p → Within p u → Rising u → length u ≤ limit →
    weights u (delivered e p) (answers e p) + 1 ≤ weight u p e
answers_weight u p e s r w ru h = go (reply c l) (reply_answered c l rl (sound_limit p e u s w ru h))
  where
    c : Claim
    c = e.claim

    l : List ℕ
    l = keys_before e p

    rl : Rising l
    rl = r (receiver e)

    k : List ℕ
    k = hear c l

    p' : Pair
    p' = delivered e p

    passes : Passes c
    passes = sound_limit p e u s w ru h

    -- an answer that asks: its receiver holds what was claimed, which is more than it counts
    ask : Claim
    ask = range_claim c.lo c.hi k

    ask_weight : length (between c.lo c.hi k) < c.cnt → weight u p' (entry (receiver e) k ask) + 1 ≤ weight u p e
    ask_weight g =
        let a : c.cnt ≡ length e.claimed = sound_cnt p e s in
        let b : length e.claimed ≤ length (between c.lo c.hi (keys_at e.sender p))
        = rising_length e.claimed (between c.lo c.hi (keys_at e.sender p)) s.rises
        (between_rising c.lo c.hi (keys_at e.sender p) (r e.sender)) (sound_sub_between p e (keys_at e.sender p) s s.there) in
        let b' : length e.claimed ≤ length (between c.lo c.hi (keys_at (other (receiver e)) p'))
        = subst (λ (m : List ℕ). length e.claimed ≤ length (between c.lo c.hi m)) (sym (keys_at_back e p)) b in
        let d : weight u p' (entry (receiver e) k ask) ≡ length (between c.lo c.hi u) - 1 = weight_less u p' (entry (receiver e) k ask) (omega arith) in
        let f : length (between c.lo c.hi l) ≤ length (between c.lo c.hi k)
        = length_sub_between c.lo c.hi l k rl (hear_rising c l rl) (hear_old c l) in
        let i : weight u p e ≡ length (between c.lo c.hi u) = weight_full u p e (omega arith) in
        let j : 1 ≤ weight u p e = weight_least u p e s r w ru in
        omega arith

    go : (a : Answer) → Answered c k a → weights u p' (waits (receiver e) k (claims_of a)) + 1 ≤ weight u p e
    go _ (matched i) = omega (arith, weight_least u p e s r w ru)
    go _ (asked {d = d} i g) =
        let t : d ≡ ask = i ∙ span_claim_range c.lo c.hi k (hear_rising c l rl) passes.ordered (hear_lo c l) (hear_hi c l) in
        let a : weight u p' (entry (receiver e) k d) + 1 ≤ weight u p e
        = subst (λ (x : Claim). weight u p' (entry (receiver e) k x) + 1 ≤ weight u p e) (sym t) (ask_weight g) in
        omega arith
    go _ (helped_one {d = d} g o i t) =
        let y : List ℕ = inside c.lo c.hi k in
        let a : weight u p' (entry (receiver e) k d) ≤ length (between (first y) (last y) u)
        = subst (λ (x : Claim). weight u p' (entry (receiver e) k x) ≤ length (between (first y) (last y) u)) (sym i)
        (weight_le u p' (entry (receiver e) k (span_claim y))) in
        let b : length (between (first y) (last y) u) + 2 ≤ length (between c.lo c.hi u)
        = length_between_within c.lo c.hi (first y) (last y) u ru o (mem_lo u p e s w) (mem_hi u p e s w) t.after t.before in
        let f : length (between c.lo c.hi u) ≤ weight u p e + 1 = weight_ge u p e in
        omega arith
    go _ (helped_two {d = d} {e = d'} y z g o i j x t v q) =
        let a : weight u p' (entry (receiver e) k d) ≤ length (between (first y) (last y) u)
        = subst (λ (x : Claim). weight u p' (entry (receiver e) k x) ≤ length (between (first y) (last y) u)) (sym i)
        (weight_le u p' (entry (receiver e) k (span_claim y))) in
        let b : weight u p' (entry (receiver e) k d') ≤ length (between (first z) (last z) u)
        = subst (λ (x : Claim). weight u p' (entry (receiver e) k x) ≤ length (between (first z) (last z) u)) (sym j)
        (weight_le u p' (entry (receiver e) k (span_claim z))) in
        let m : length (between (first y) (last y) u) + length (between (first z) (last z) u) + 2 ≤ length (between c.lo c.hi u)
        = length_between_two c.lo c.hi (first y) (last y) (first z) (last z) u ru o (mem_lo u p e s w) (mem_hi u p e s w) t.after q
        v.after t.before v.before in
        let f : length (between c.lo c.hi u) ≤ weight u p e + 1 = weight_ge u p e in
        omega arith
