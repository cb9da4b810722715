-- What waits in a round: `Entry`, `waits` and `answers` of Round. In order: a sound entry, whose claim is the claim of what its sender held, and what
-- that gives; it stays sound while stores grow; claims made of keys wait soundly; its weight, by which deliveries are counted: it never rises while
-- stores grow, and is at least 1. `u` is the union of both stores. Not here: what a delivery does to the weights (Deliver). Assumes nothing.
use Prim.Native.Nat.{ℕ, suc, ◌+◌, ◌-◌, ◌≤◌, ◌<◌, min}
use mathlib.Core.List.Memᴰ
use mathlib.Core.List.{List, [], ◌∷◌, ◌++◌, Memᴰ}
use mathlib.Core.Logic.{⊎_elim}
use mathlib.Core.Path.{◌≡◌, refl, sym, ap, ◌∙◌, subst}
use native.Mathlib.Omega.{arith}
use lib.ListN.{length}
use Rattle.keys.specs.Store.{limit}
use Rattle.keys.proofs.Rising.{Rising, Sub, sub_trans, rising_length}
use Rattle.claims.specs.declared.claim.Claim.{Claim}
use Rattle.claims.specs.Claim.{between}
use Rattle.claims.specs.Reply.{ends}
use Rattle.claims.proofs.Between.{mem_between, between_rising, between_sub, length_sub_between}
use Rattle.claims.proofs.Span.{first, last, first_le, le_last, mem_first, mem_last}
use Rattle.claims.proofs.QuestionLaws.{Passes}
use Rattle.claims.proofs.ClaimLaws.{span_claim, span_claim_passes}
use Rattle.rule.specs.Round.{End, Pair, keys_at, Entry, entry, receiver, keys_before, waits}
use Rattle.rule.proofs.Pair.{Rises, Within, Grows}

-- ---- a sound entry

pub record Sound (p : Pair) (e : Entry) : Type 0 where
  pub is : e.claim ≡ span_claim e.claimed
  pub rises : Rising e.claimed
  pub some : 0 < length e.claimed
  pub there : Sub e.claimed (keys_at e.sender p)

pub sound_cnt : (p : Pair) (e : Entry) → Sound p e → e.claim.cnt ≡ length e.claimed
sound_cnt p e s = ap (λ (c : Claim). c.cnt) s.is

pub sound_lo : (p : Pair) (e : Entry) → Sound p e → e.claim.lo ≡ first e.claimed
sound_lo p e s = ap (λ (c : Claim). c.lo) s.is

pub sound_hi : (p : Pair) (e : Entry) → Sound p e → e.claim.hi ≡ last e.claimed
sound_hi p e s = ap (λ (c : Claim). c.hi) s.is

pub sound_ends : (p : Pair) (e : Entry) → Sound p e → Sub (ends e.claim) e.claimed
sound_ends p e s k (Memᴰ.head h) = Memᴰ.cast (h ∙ sound_lo p e s) (mem_first e.claimed s.some)
sound_ends p e s k (Memᴰ.tail (Memᴰ.head h)) = Memᴰ.cast (h ∙ sound_hi p e s) (mem_last e.claimed s.some)
sound_ends p e s k (Memᴰ.tail (Memᴰ.tail m)) = absurd (Memᴰ.not-nil m)

-- what was held lies from lo to hi
pub sound_range : (p : Pair) (e : Entry) → Sound p e → (k : ℕ) → Memᴰ k e.claimed → (e.claim.lo ≤ k) × (k ≤ e.claim.hi)
sound_range p e s k m =
    let a : first e.claimed ≤ k = first_le e.claimed s.rises k m in
    let b : k ≤ last e.claimed = le_last e.claimed s.rises k m in
    let c : e.claim.lo ≡ first e.claimed = sound_lo p e s in
    let d : e.claim.hi ≡ last e.claimed = sound_hi p e s in
    (omega arith, omega arith)

pub sound_sub_between : (p : Pair) (e : Entry) (l : List ℕ) → Sound p e → Sub e.claimed l → Sub e.claimed (between e.claim.lo e.claim.hi l)
sound_sub_between p e l s h k m = let t = sound_range p e s k m in mem_between e.claim.lo e.claim.hi l k (h k m) t.0 t.1

pub sound_passes : (p : Pair) (e : Entry) → Sound p e → length e.claimed ≤ limit → Passes e.claim
sound_passes p e s h = subst Passes (sym s.is) (span_claim_passes e.claimed s.rises s.some h)

-- where its sender's keys lie within u, so does what was held ..
pub sound_within : (u : List ℕ) (p : Pair) (e : Entry) → Sound p e → Within p u → Sub e.claimed u
sound_within u p e s w = sub_trans e.claimed (keys_at e.sender p) u s.there (w e.sender)

-- .. and no more was held than u has from lo to hi
pub sound_length : (p : Pair) (e : Entry) (u : List ℕ) → Sound p e → Within p u → Rising u → e.claim.cnt ≤ length (between e.claim.lo e.claim.hi u)
sound_length p e u s w r =
    let c : e.claim.cnt ≡ length e.claimed = sound_cnt p e s in
    let h : length e.claimed ≤ length (between e.claim.lo e.claim.hi u)
    = rising_length e.claimed (between e.claim.lo e.claim.hi u) s.rises (between_rising e.claim.lo e.claim.hi u r)
    (sound_sub_between p e u s (sound_within u p e s w)) in
    omega arith

pub sound_limit : (p : Pair) (e : Entry) (u : List ℕ) → Sound p e → Within p u → Rising u → length u ≤ limit → Passes e.claim
sound_limit p e u s w r h =
    sound_passes p e s (let a : length e.claimed ≤ length u = rising_length e.claimed u s.rises r (sound_within u p e s w) in omega arith)

pub sound_grown : (p p' : Pair) (e : Entry) → Grows p p' → Sound p e → Sound p' e
sound_grown p p' e g s = record {
  is = s.is;
  rises = s.rises;
  some = s.some;
  there = sub_trans e.claimed (keys_at e.sender p) (keys_at e.sender p') s.there (g e.sender);
}

-- ---- entries that wait

abbrev pub AllSound : Pair → List Entry → Type 0
AllSound p q = (e : Entry) → Memᴰ e q → Sound p e

pub all_sound_grown : (p p' : Pair) (q : List Entry) → Grows p p' → AllSound p q → AllSound p' q
all_sound_grown p p' q g s e m = sound_grown p p' e g (s e m)

pub all_sound_append : (p : Pair) (q r : List Entry) → AllSound p q → AllSound p r → AllSound p (q ++ r)
all_sound_append p q r s t e m = ⊎_elim {C = Sound p e} (s e) (t e) (Memᴰ.append_cases q m)

-- a claim whose keys from lo to hi are y is sound where it is the claim of y
pub sound_entry : (p : Pair) (s : End) (l y : List ℕ) → Rising l → Sub l (keys_at s p) → 0 < length y → between (first y) (last y) l ≡ y →
    Sound p (entry s l (span_claim y))
sound_entry p s l y r h n e = record {
  is = ap span_claim (sym e);
  rises = between_rising (first y) (last y) l r;
  some = subst (λ (k : List ℕ). 0 < length k) (sym e) n;
  there = sub_trans (between (first y) (last y) l) l (keys_at s p) (between_sub (first y) (last y) l) h;
}

pub length_waits : (s : End) (l : List ℕ) (c : List Claim) → length (waits s l c) ≡ length c
length_waits s l [] = refl
length_waits s l (x ∷ xs) = ap suc (length_waits s l xs)

-- ---- the weight of an entry

-- the keys of u from lo to hi; one less where the receiver already holds more of them than the claim counts
unfoldable pub weight : List ℕ → Pair → Entry → ℕ
weight u p e = length (between e.claim.lo e.claim.hi u) - min 1 (length (between e.claim.lo e.claim.hi (keys_before e p)) - e.claim.cnt)

abbrev pub weights : List ℕ → Pair → List Entry → ℕ
weights u p [] = 0
weights u p (e ∷ q) = weight u p e + weights u p q

pub weights_append : (u : List ℕ) (p : Pair) (q r : List Entry) → weights u p (q ++ r) ≡ weights u p q + weights u p r
weights_append u p [] r = omega arith
weights_append u p (e ∷ q) r = omega (arith, weights_append u p q r)

pub weight_le : (u : List ℕ) (p : Pair) (e : Entry) → weight u p e ≤ length (between e.claim.lo e.claim.hi u)
unfolding weight
weight_le u p e = omega arith

pub weight_ge : (u : List ℕ) (p : Pair) (e : Entry) → length (between e.claim.lo e.claim.hi u) ≤ weight u p e + 1
unfolding weight
weight_ge u p e = omega arith

-- the receiver holds no more than the claim counts
pub weight_full : (u : List ℕ) (p : Pair) (e : Entry) → length (between e.claim.lo e.claim.hi (keys_before e p)) ≤ e.claim.cnt →
    weight u p e ≡ length (between e.claim.lo e.claim.hi u)
unfolding weight
weight_full u p e h = omega arith

-- the receiver holds more
pub weight_less : (u : List ℕ) (p : Pair) (e : Entry) → e.claim.cnt < length (between e.claim.lo e.claim.hi (keys_before e p)) →
    weight u p e ≡ length (between e.claim.lo e.claim.hi u) - 1
unfolding weight
weight_less u p e h = omega arith

pub weight_grown : (u : List ℕ) (p p' : Pair) (e : Entry) → Rises p → Rises p' → Grows p p' → weight u p' e ≤ weight u p e
unfolding weight
weight_grown u p p' e r r' g =
    let h : length (between e.claim.lo e.claim.hi (keys_before e p)) ≤ length (between e.claim.lo e.claim.hi (keys_before e p'))
    = length_sub_between e.claim.lo e.claim.hi (keys_before e p) (keys_before e p') (r (receiver e)) (r' (receiver e)) (g (receiver e)) in
    omega arith

pub weights_grown : (u : List ℕ) (p p' : Pair) (q : List Entry) → Rises p → Rises p' → Grows p p' → weights u p' q ≤ weights u p q
weights_grown u p p' [] r r' g = omega arith
weights_grown u p p' (e ∷ q) r r' g = omega (arith, weight_grown u p p' e r r' g, weights_grown u p p' q r r' g)

pub weight_least : (u : List ℕ) (p : Pair) (e : Entry) → Sound p e → Rises p → Within p u → Rising u → 1 ≤ weight u p e
unfolding weight
weight_least u p e s r w ru =
    let a : e.claim.cnt ≤ length (between e.claim.lo e.claim.hi u) = sound_length p e u s w ru in
    let b : e.claim.cnt ≡ length e.claimed = sound_cnt p e s in
    let c : 0 < length e.claimed = s.some in
    let d : length (between e.claim.lo e.claim.hi (keys_before e p)) ≤ length (between e.claim.lo e.claim.hi u)
    = length_sub_between e.claim.lo e.claim.hi (keys_before e p) u (r (receiver e)) ru (w (receiver e)) in
    omega arith

-- so there wait no more entries than their weights come to
pub length_weights : (u : List ℕ) (p : Pair) (q : List Entry) → AllSound p q → Rises p → Within p u → Rising u → length q ≤ weights u p q
length_weights u p [] s r w ru = omega arith
length_weights u p (e ∷ q) s r w ru =
    omega (arith, weight_least u p e (s e (Memᴰ.head refl)) r w ru, length_weights u p q (λ f m. s f (Memᴰ.tail m)) r w ru)
