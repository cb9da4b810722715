-- A half of a round ends, and makes at most as many deliveries as the union has keys: `run`, `run_all` and `half` of Round. In order: a fine state of a
-- half, and that a delivery leads to the next; running: it ends, its deliveries and what waits fit the weight, more steps change nothing; `run_all`
-- without its bound; a half. Each delivery takes at least 1 off the weights of what waits. Not here: the round, of two halves (RoundLaws).
-- Assumes nothing.
use Prim.Native.Nat.{ℕ, zero, suc, ◌+◌, ◌≤◌, ◌<◌}
use mathlib.Core.List.Memᴰ
use mathlib.Core.List.{List, [], ◌∷◌, ◌++◌}
use mathlib.Core.Path.{◌≡◌, refl, sym, ap, ◌∙◌, subst}
use native.Mathlib.Omega.{arith}
use lib.ListN.{length}
use Rattle.keys.specs.Store.{limit}
use Rattle.keys.proofs.Rising.{Rising, Sub, sub_refl}
use Rattle.claims.specs.Claim.{whole_claim, between}
use Rattle.claims.proofs.Between.{length_between}
use Rattle.claims.proofs.Span.{between_first_last}
use Rattle.claims.proofs.QuestionLaws.{Passes}
use Rattle.claims.proofs.ClaimLaws.{span_claim, whole_claim_span}
use Rattle.rule.specs.Round.{End, Pair, keys_at, Entry, entry, waits, delivered, answers, line, noting, run, run_all, half}
use Rattle.rule.proofs.Pair.{Rises, Within, Grows, grows_refl, grows_trans, union_of}
use Rattle.rule.proofs.Pair.{union_of_rising, union_of_grown, within_union_of, delivered_rises, delivered_within, delivered_grows}
use Rattle.rule.proofs.Entry.{Sound, sound_limit, AllSound, all_sound_grown, all_sound_append, sound_entry}
use Rattle.rule.proofs.Entry.{weight, weights, weights_append, weights_grown, weight_le, length_weights}
use Rattle.rule.proofs.Deliver.{answers_sound, answers_weight, adding_within}

-- ---- a fine state of a half

-- both stores rise and lie within u, which a store can hold, and every entry that waits is sound
pub record Fine (u : List ℕ) (p : Pair) (q : List Entry) : Type 0 where
  pub whole : Rising u
  pub fits : length u ≤ limit
  pub rises : Rises p
  pub within : Within p u
  pub sound : AllSound p q

fine_first : (u : List ℕ) (p : Pair) (e : Entry) (q : List Entry) → Fine u p (e ∷ q) → Sound p e
fine_first u p e q f = f.sound e (Memᴰ.head refl)

-- the first claim passes questions 2 to 5 and 16
pub fine_passes : (u : List ℕ) (p : Pair) (e : Entry) (q : List Entry) → Fine u p (e ∷ q) → Passes e.claim
fine_passes u p e q f = sound_limit p e u (fine_first u p e q f) f.within f.whole f.fits

pub fine_step : (u : List ℕ) (p : Pair) (e : Entry) (q : List Entry) → Fine u p (e ∷ q) → Fine u (delivered e p) (q ++ answers e p)
fine_step u p e q f =
    let s : Sound p e = fine_first u p e q f in
    record {
      whole = f.whole;
      fits = f.fits;
      rises = delivered_rises e p f.rises;
      within = delivered_within e p u (adding_within u p e s f.within) f.within;
      sound = all_sound_append (delivered e p) q (answers e p)
          (all_sound_grown p (delivered e p) q (delivered_grows e p) (λ x m. f.sound x (Memᴰ.tail m)))
          (answers_sound u p e s f.rises f.within f.whole f.fits);
    }

pub weights_step : (u : List ℕ) (p : Pair) (e : Entry) (q : List Entry) → Fine u p (e ∷ q) →
    weights u (delivered e p) (q ++ answers e p) + 1 ≤ weights u p (e ∷ q)
weights_step u p e q f =
    let a : weights u (delivered e p) (q ++ answers e p) ≡ weights u (delivered e p) q + weights u (delivered e p) (answers e p)
    = weights_append u (delivered e p) q (answers e p) in
    let b : weights u (delivered e p) q ≤ weights u p q
    = weights_grown u p (delivered e p) q f.rises (delivered_rises e p f.rises) (delivered_grows e p) in
    let c : weights u (delivered e p) (answers e p) + 1 ≤ weight u p e
    = answers_weight u p e (fine_first u p e q f) f.rises f.within f.whole f.fits in
    omega arith

-- what waits is never more than what the weights leave: with the deliveries so far, it fits the records
pub fine_length : (u : List ℕ) (p : Pair) (q : List Entry) → Fine u p q → length q ≤ weights u p q
fine_length u p q f = length_weights u p q f.sound f.rises f.within f.whole

-- ---- running

pub run_nil : (n : ℕ) (p : Pair) → run n p [] ≡ record { stores = p; lines = []; waiting = [] }
unfolding run
run_nil zero p = refl
run_nil (suc n) p = refl

pub run_cons : (n : ℕ) (p : Pair) (e : Entry) (q : List Entry) → run (suc n) p (e ∷ q) ≡ noting (line e p) (run n (delivered e p) (q ++ answers e p))
unfolding run
run_cons n p e q = refl

pub run_fine : (n : ℕ) (u : List ℕ) (p : Pair) (q : List Entry) → Fine u p q → Fine u (run n p q).stores (run n p q).waiting
unfolding run
run_fine zero u p q f = f
run_fine (suc n) u p [] f = f
run_fine (suc n) u p (e ∷ q) f = run_fine n u (delivered e p) (q ++ answers e p) (fine_step u p e q f)

pub run_grows : (n : ℕ) (p : Pair) (q : List Entry) → Grows p (run n p q).stores
unfolding run
run_grows zero p q = grows_refl p
run_grows (suc n) p [] = grows_refl p
run_grows (suc n) p (e ∷ q) =
    grows_trans p (delivered e p) (run n (delivered e p) (q ++ answers e p)).stores (delivered_grows e p) (run_grows n (delivered e p) (q ++ answers e p))

pub length_run : (n : ℕ) (u : List ℕ) (p : Pair) (q : List Entry) → Fine u p q → length (run n p q).lines ≤ weights u p q
unfolding run
length_run zero u p q f = omega arith
length_run (suc n) u p [] f = omega arith
length_run (suc n) u p (e ∷ q) f = omega (arith, weights_step u p e q f, length_run n u (delivered e p) (q ++ answers e p) (fine_step u p e q f))

-- the deliveries and what waits after them
pub length_run_waiting : (n : ℕ) (u : List ℕ) (p : Pair) (q : List Entry) → Fine u p q → length (run n p q).lines + length (run n p q).waiting ≤ weights u p q
unfolding run
length_run_waiting zero u p q f = omega (arith, fine_length u p q f)
length_run_waiting (suc n) u p [] f = omega arith
length_run_waiting (suc n) u p (e ∷ q) f =
    omega (arith, weights_step u p e q f, length_run_waiting n u (delivered e p) (q ++ answers e p) (fine_step u p e q f))

-- nothing waits at the end ..
pub run_ends : (n : ℕ) (u : List ℕ) (p : Pair) (q : List Entry) → Fine u p q → weights u p q ≤ n → (run n p q).waiting ≡ []
unfolding run
run_ends zero u p [] f h = refl
run_ends zero u p (e ∷ q) f h = absurd (omega (arith, weights_step u p e q f))
run_ends (suc n) u p [] f h = refl
run_ends (suc n) u p (e ∷ q) f h = run_ends n u (delivered e p) (q ++ answers e p) (fine_step u p e q f) (omega (arith, weights_step u p e q f))

-- .. and more steps change nothing
pub run_more : (n m : ℕ) (u : List ℕ) (p : Pair) (q : List Entry) → Fine u p q → weights u p q ≤ n → weights u p q ≤ m → run n p q ≡ run m p q
run_more zero zero u p q f h g = refl
run_more zero (suc m) u p [] f h g = run_nil zero p ∙ sym (run_nil (suc m) p)
run_more zero (suc m) u p (e ∷ q) f h g = absurd (omega (arith, weights_step u p e q f))
run_more (suc n) zero u p [] f h g = run_nil (suc n) p ∙ sym (run_nil zero p)
run_more (suc n) zero u p (e ∷ q) f h g = absurd (omega (arith, weights_step u p e q f))
run_more (suc n) (suc m) u p [] f h g = run_nil (suc n) p ∙ sym (run_nil (suc m) p)
run_more (suc n) (suc m) u p (e ∷ q) f h g =
    run_cons n p e q
    ∙ ap (noting (line e p))
    (run_more n m u (delivered e p) (q ++ answers e p) (fine_step u p e q f) (omega (arith, weights_step u p e q f)) (omega (arith, weights_step u p e q f)))
    ∙ sym (run_cons m p e q)

-- ---- a half, at any time in it

-- what a half comes to while it is delivered: fine over the union of its two stores, with no more weight than that union has keys
pub record Halfway (p : Pair) (q : List Entry) : Type 0 where
  pub fine : Fine (union_of p) p q
  pub light : weights (union_of p) p q ≤ length (union_of p)

-- its deliveries leave the union as it is
halfway_union : (p : Pair) (e : Entry) (q : List Entry) → Halfway p (e ∷ q) → union_of (delivered e p) ≡ union_of p
halfway_union p e q h =
    let f : Fine (union_of p) (delivered e p) (q ++ answers e p) = fine_step (union_of p) p e q h.fine in
    union_of_grown p (delivered e p) h.fine.rises f.rises (delivered_grows e p) f.within

-- a delivery leads to the next such state: with `run_all_cons`, an induction over a half's deliveries, by which they are counted
pub halfway_step : (p : Pair) (e : Entry) (q : List Entry) → Halfway p (e ∷ q) → Halfway (delivered e p) (q ++ answers e p)
halfway_step p e q h =
    let f : Fine (union_of p) (delivered e p) (q ++ answers e p) = fine_step (union_of p) p e q h.fine in
    let k : union_of (delivered e p) ≡ union_of p = halfway_union p e q h in
    let w : weights (union_of p) (delivered e p) (q ++ answers e p) ≤ length (union_of p) = omega (arith, weights_step (union_of p) p e q h.fine, h.light) in
    record {
      fine = subst (λ (u : List ℕ). Fine u (delivered e p) (q ++ answers e p)) (sym k) f;
      light = subst (λ (u : List ℕ). weights u (delivered e p) (q ++ answers e p) ≤ length u) (sym k) w;
    }

-- one sound claim that waits alone
pub halfway_alone : (p : Pair) (e : Entry) → Rises p → length (union_of p) ≤ limit → Sound p e → Halfway p (e ∷ [])
halfway_alone p e r h a =
    let b : weight (union_of p) p e ≤ length (between e.claim.lo e.claim.hi (union_of p)) = weight_le (union_of p) p e in
    let c : length (between e.claim.lo e.claim.hi (union_of p)) ≤ length (union_of p) = length_between e.claim.lo e.claim.hi (union_of p) in
    record {
      fine = record {
        whole = union_of_rising p r;
        fits = h;
        rises = r;
        within = within_union_of p;
        sound = λ x m. subst (Sound p) (sym (Memᴰ.eq_of_singleton m)) a;
      };
      light = omega arith;
    }

-- a half with nothing waiting ends
pub run_all_nil : (p : Pair) → run_all p [] ≡ record { stores = p; lines = []; waiting = [] }
unfolding run_all
run_all_nil p = run_nil _ p

-- a half with a first entry is the half after its delivery, with the replies put last
pub run_all_cons : (p : Pair) (e : Entry) (q : List Entry) → Halfway p (e ∷ q) → run_all p (e ∷ q) ≡ noting (line e p) (run_all (delivered e p) (q ++ answers e p))
unfolding run_all
run_all_cons p e q h = go (length (union_of p)) refl
  where
    u : List ℕ
    u = union_of p

    f : Fine u (delivered e p) (q ++ answers e p)
    f = fine_step u p e q h.fine

    go : (n : ℕ) → length u ≡ n → run n p (e ∷ q) ≡ noting (line e p) (run (length (union_of (delivered e p))) (delivered e p) (q ++ answers e p))
    go zero z = absurd (omega (arith, weights_step u p e q h.fine, h.light))
    go (suc n) z =
        run_cons n p e q
        ∙ ap (noting (line e p))
        (run_more n (length u) u (delivered e p) (q ++ answers e p) f (omega (arith, weights_step u p e q h.fine, h.light))
        (omega (arith, weights_step u p e q h.fine, h.light))
        ∙ ap (λ (v : List ℕ). run (length v) (delivered e p) (q ++ answers e p)) (sym (halfway_union p e q h)))

pub run_all_ends : (p : Pair) (q : List Entry) → Halfway p q → (run_all p q).waiting ≡ []
unfolding run_all
run_all_ends p q h = run_ends (length (union_of p)) (union_of p) p q h.fine h.light

-- ---- a half

abbrev pub opening : End → Pair → List Entry
opening s p = waits s (keys_at s p) (whole_claim (keys_at s p))

opening_whole : (s : End) (p : Pair) (l : List ℕ) → Rises p → l ≡ keys_at s p → length (union_of p) ≤ limit → Halfway p (waits s l (whole_claim l))
opening_whole s p [] r e h = record {
  fine = record { whole = union_of_rising p r; fits = h; rises = r; within = within_union_of p; sound = λ x m. absurd (Memᴰ.not-nil m) };
  light = omega arith;
}
opening_whole s p (k ∷ ks) r e h =
    let l : List ℕ = k ∷ ks in
    let rl : Rising l = subst Rising (sym e) (r s) in
    let x : Entry = entry s l (span_claim l) in
    let i : waits s l (whole_claim l) ≡ x ∷ [] = ap (waits s l) (whole_claim_span l (omega arith)) in
    let a : Sound p x = sound_entry p s l l rl (subst (λ (m : List ℕ). Sub l m) e (sub_refl l)) (omega arith) (between_first_last l rl) in
    subst (Halfway p) (sym i) (halfway_alone p x r h a)

-- of an end with keys: their claim
pub opening_some : (s : End) (p : Pair) → 0 < length (keys_at s p) → opening s p ≡ entry s (keys_at s p) (span_claim (keys_at s p)) ∷ []
opening_some s p some = ap (waits s (keys_at s p)) (whole_claim_span (keys_at s p) some)

pub halfway_opening : (s : End) (p : Pair) → Rises p → length (union_of p) ≤ limit → Halfway p (opening s p)
halfway_opening s p r h = opening_whole s p (keys_at s p) r refl h

pub half_opening : (s : End) (p : Pair) → half s p ≡ run_all p (opening s p)
unfolding half
half_opening s p = refl

pub half_run : (s : End) (p : Pair) → half s p ≡ run (length (union_of p)) p (opening s p)
unfolding half run_all
half_run s p = refl

pub half_fine : (s : End) (p : Pair) → Rises p → length (union_of p) ≤ limit → Fine (union_of p) (half s p).stores (half s p).waiting
unfolding half run_all
half_fine s p r h = run_fine (length (union_of p)) (union_of p) p (opening s p) (halfway_opening s p r h).fine

pub half_ends : (s : End) (p : Pair) → Rises p → length (union_of p) ≤ limit → (half s p).waiting ≡ []
unfolding half
half_ends s p r h = run_all_ends p (opening s p) (halfway_opening s p r h)

pub length_half : (s : End) (p : Pair) → Rises p → length (union_of p) ≤ limit → length (half s p).lines ≤ length (union_of p)
unfolding half run_all
length_half s p r h =
    let w : Halfway p (opening s p) = halfway_opening s p r h in
    omega (arith, length_run (length (union_of p)) (union_of p) p (opening s p) w.fine, w.light)

pub half_grows : (s : End) (p : Pair) → Grows p (half s p).stores
unfolding half run_all
half_grows s p = run_grows (length (union_of p)) p (opening s p)

pub half_union : (s : End) (p : Pair) → Rises p → length (union_of p) ≤ limit → union_of (half s p).stores ≡ union_of p
half_union s p r h = union_of_grown p (half s p).stores r (half_fine s p r h).rises (half_grows s p) (half_fine s p r h).within
