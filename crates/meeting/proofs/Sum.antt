-- In a half, the ranges of the claims that wait are pairwise disjoint (`half_pairwise`), so deliveries add up over the entries (`run_all_sum`): what follows
-- from one entry is as many deliveries as if it waited alone. In order: ranges apart; they stay so; a delivery is not seen outside its range; the sum.
-- Assumes nothing.
use Prim.Native.Nat.{ℕ, zero, suc, ◌+◌, ◌≤◌, ◌<◌}
use mathlib.Core.List.Memᴰ
use mathlib.Core.List.{List, [], ◌∷◌, ◌++◌, Memᴰ}
use mathlib.Core.Logic.{◌⊎◌, inl, inr, ⊎_elim}
use mathlib.Core.Path.{◌≡◌, refl, sym, ap, ◌∙◌, subst}
use native.Mathlib.Omega.{arith}
use lib.ListN.{length}
use Rattle.keys.specs.Store.{limit}
use Rattle.claims.specs.declared.claim.Claim.{Claim}
use Rattle.claims.specs.Answer.{Answer}
use Rattle.claims.specs.Claim.{between, whole_claim}
use Rattle.claims.specs.Reply.{adding, hear, reply, claims_of}
use Rattle.claims.proofs.Span.{last}
use Rattle.claims.proofs.QuestionLaws.{Passes}
use Rattle.claims.proofs.ReplyLaws.{adding_range, Answered, matched, asked, helped_one, helped_two, reply_answered}
use Rattle.rule.specs.Round.{End, Pair, keys_at, Entry, entry, waits, receiver, keys_before, delivered, answers, Run, run, run_all}
use Rattle.rule.proofs.Pair.{Rises, union_of, holding_each}
use Rattle.rule.proofs.Entry.{weight, weights, weights_append, weight_least}
use Rattle.rule.proofs.Half.{Fine, fine_passes, fine_step, weights_step, run_more, Halfway, opening, halfway_opening}
use Rattle.meeting.proofs.Local.{between_insert_all_outside, AgreeOn, answers_range, run_local}

-- ---- ranges apart

abbrev pub Separate : Entry → Entry → Type 0
Separate e f = (e.claim.hi < f.claim.lo) ⊎ (f.claim.hi < e.claim.lo)

abbrev pub Pairwise : List Entry → Type 0
Pairwise [] = Unit
Pairwise (e ∷ q) = ((f : Entry) → Memᴰ f q → Separate e f) × Pairwise q

separate_sym : (e f : Entry) → Separate e f → Separate f e
separate_sym e f (inl h) = inr h
separate_sym e f (inr h) = inl h

-- what lies within a range is apart from what the range is apart from
separate_within : (e x f : Entry) → (e.claim.lo ≤ x.claim.lo) × (x.claim.hi ≤ e.claim.hi) → Separate e f → Separate x f
separate_within e x f t (inl h) = inl (omega (arith, t.1))
separate_within e x f t (inr h) = inr (omega (arith, t.0))

pairwise_append : (a b : List Entry) → Pairwise a → Pairwise b → ((x y : Entry) → Memᴰ x a → Memᴰ y b → Separate x y) → Pairwise (a ++ b)
pairwise_append [] b p q f = q
pairwise_append (e ∷ a) b p q f = (
  λ x m. ⊎_elim {C = Separate e x} (p.0 x) (f e x (Memᴰ.head refl)) (Memᴰ.append_cases a m),
  pairwise_append a b p.1 q (λ x y i j. f x y (Memᴰ.tail i) j),
)

pairwise_left : (a b : List Entry) → Pairwise (a ++ b) → Pairwise a
pairwise_left [] b p = tt
pairwise_left (e ∷ a) b p = (λ x m. p.0 x (Memᴰ.append_left b m), pairwise_left a b p.1)

-- ---- they stay so

answers_pairwise : (p : Pair) (e : Entry) → Rises p → Passes e.claim → Pairwise (answers e p)
answers_pairwise p e r q = go (reply c (keys_before e p)) (reply_answered c (keys_before e p) (r (receiver e)) q)
  where
    c : Claim
    c = e.claim

    k : List ℕ
    k = hear c (keys_before e p)

    none : (x f : Entry) → Memᴰ f [] → Separate x f
    none x f m = absurd (Memᴰ.not-nil m)

    go : (a : Answer) → Answered c k a → Pairwise (waits (receiver e) k (claims_of a))
    go _ (matched i) = tt
    go _ (asked {d = d} i g) = (none (entry (receiver e) k d), tt)
    go _ (helped_one {d = d} g o i t) = (none (entry (receiver e) k d), tt)
    go _ (helped_two {d = d} {e = d'} y z g o i j x t v w) =
        let a : d.hi < d'.lo
        = subst (λ (m : ℕ). m < d'.lo) (sym (ap (λ (b : Claim). b.hi) i)) (subst (λ (m : ℕ). last y < m) (sym (ap (λ (b : Claim). b.lo) j)) w) in (
          λ f m. subst (λ (b : Entry). Separate (entry (receiver e) k d) b) (sym (Memᴰ.eq_of_singleton m)) (inl a),
          (none (entry (receiver e) k d'), tt),
        )

pub pairwise_step : (u : List ℕ) (p : Pair) (e : Entry) (q : List Entry) → Fine u p (e ∷ q) → Pairwise (e ∷ q) → Pairwise (q ++ answers e p)
pairwise_step u p e q f w =
    pairwise_append q (answers e p) w.1 (answers_pairwise p e f.rises (fine_passes u p e q f))
    (λ x y i j. separate_sym y x (separate_within e y x (answers_range p e f.rises (fine_passes u p e q f) y j) (w.0 x i)))

pub run_pairwise : (n : ℕ) (u : List ℕ) (p : Pair) (q : List Entry) → Fine u p q → Pairwise q → Pairwise (run n p q).waiting
unfolding run
run_pairwise zero u p q f w = w
run_pairwise (suc n) u p [] f w = tt
run_pairwise (suc n) u p (e ∷ q) f w = run_pairwise n u (delivered e p) (q ++ answers e p) (fine_step u p e q f) (pairwise_step u p e q f w)

pub opening_pairwise : (s : End) (p : Pair) → Pairwise (opening s p)
opening_pairwise s p = go (keys_at s p)
  where
    go : (l : List ℕ) → Pairwise (waits s l (whole_claim l))
    go [] = tt
    go (k ∷ ks) = (λ f m. absurd (Memᴰ.not-nil m), tt)

-- after any number of deliveries of a half
pub half_pairwise : (n : ℕ) (s : End) (p : Pair) → Rises p → length (union_of p) ≤ limit → Pairwise (run n p (opening s p)).waiting
half_pairwise n s p r h = run_pairwise n (union_of p) p (opening s p) (halfway_opening s p r h).fine (opening_pairwise s p)

-- ---- a delivery is not seen outside its range

pub separate_agree : (p : Pair) (e f : Entry) → Passes e.claim → Separate e f → AgreeOn p (delivered e p) f
separate_agree p e f q s =
    holding_each (λ (t : End) (l : List ℕ). between f.claim.lo f.claim.hi (keys_at t p) ≡ between f.claim.lo f.claim.hi l) (receiver e)
    (hear e.claim (keys_before e p)) p
    (sym (between_insert_all_outside f.claim.lo f.claim.hi (adding e.claim (keys_before e p)) (keys_before e p)
    (λ k m. outside k s (adding_range e.claim (keys_before e p) q.ordered k m))))
    (λ t. refl)
  where
    outside : (k : ℕ) → Separate e f → (e.claim.lo ≤ k) × (k ≤ e.claim.hi) → (k < f.claim.lo) ⊎ (f.claim.hi < k)
    outside k (inl h) i = inl (omega (arith, i.1))
    outside k (inr h) i = inr (omega (arith, i.0))

-- ---- the sum

fine_part : (u : List ℕ) (p : Pair) (q r : List Entry) → Fine u p q → ((x : Entry) → Memᴰ x r → Memᴰ x q) → Fine u p r
fine_part u p q r f s = record { whole = f.whole; fits = f.fits; rises = f.rises; within = f.within; sound = λ x m. f.sound x (s x m) }

pub run_sum : (n : ℕ) (u : List ℕ) (p : Pair) (q r : List Entry) → Fine u p (q ++ r) → Pairwise (q ++ r) → weights u p (q ++ r) ≤ n →
    length (run n p (q ++ r)).lines ≡ length (run n p q).lines + length (run n p r).lines
unfolding run
run_sum zero u p q r f w h = omega arith
run_sum (suc n) u p [] r f w h = omega arith
run_sum (suc n) u p (e ∷ q) r f w h =
    let p' : Pair = delivered e p in
    let ans : List Entry = answers e p in
    let fq : Fine u p (e ∷ q) = fine_part u p (e ∷ (q ++ r)) (e ∷ q) f (λ x m. Memᴰ.append_left {s = e ∷ q} r m) in
    let fr : Fine u p r = fine_part u p (e ∷ (q ++ r)) r f (λ x m. Memᴰ.tail (Memᴰ.append_right q m)) in
    let f' : Fine u p' ((q ++ r) ++ ans) = fine_step u p e (q ++ r) f in
    let w' : Pairwise ((q ++ r) ++ ans) = pairwise_step u p e (q ++ r) f w in
    let wq : Pairwise (e ∷ q) = pairwise_left (e ∷ q) r w in
    let s₁ : weights u p' ((q ++ r) ++ ans) + 1 ≤ weights u p (e ∷ (q ++ r)) = weights_step u p e (q ++ r) f in
    let s₂ : weights u p' (q ++ ans) + 1 ≤ weights u p (e ∷ q) = weights_step u p e q fq in
    let a₁ : weights u p' ((q ++ r) ++ ans) ≡ weights u p' (q ++ r) + weights u p' ans = weights_append u p' (q ++ r) ans in
    let a₂ : weights u p (q ++ r) ≡ weights u p q + weights u p r = weights_append u p q r in
    let least : 1 ≤ weight u p e = weight_least u p e (f.sound e (Memᴰ.head refl)) f.rises f.within f.whole in
    let i₁ : length (run n p' ((q ++ r) ++ ans)).lines ≡ length (run n p' (q ++ r)).lines + length (run n p' ans).lines
    = run_sum n u p' (q ++ r) ans f' w' (omega arith) in
    let i₂ : length (run n p' (q ++ r)).lines ≡ length (run n p' q).lines + length (run n p' r).lines
    = run_sum n u p' q r (fine_part u p' ((q ++ r) ++ ans) (q ++ r) f' (λ x m. Memᴰ.append_left ans m)) (pairwise_left (q ++ r) ans w') (omega arith) in
    let i₃ : length (run n p' (q ++ ans)).lines ≡ length (run n p' q).lines + length (run n p' ans).lines
    = run_sum n u p' q ans (fine_step u p e q fq) (pairwise_step u p e q fq wq) (omega arith) in
    let more : length (run (suc n) p r).lines ≡ length (run n p r).lines
    = ap (λ (x : Run). length x.lines) (run_more (suc n) n u p r fr (omega arith) (omega arith)) in
    let local : length (run n p r).lines ≡ length (run n p' r).lines
    = ap length (run_local n u p p' r fr (fine_part u p' ((q ++ r) ++ ans) r f' (λ x m. Memᴰ.append_left ans (Memᴰ.append_right q m)))
    (λ x m. separate_agree p e x (fine_passes u p e (q ++ r) f) (w.0 x (Memᴰ.append_right q m)))) in
    let more' : length (run (suc n) p r).lines ≡ length (run n p' r).lines = more ∙ local in
    omega arith

-- at any time in a half: what waits may be taken apart anywhere
pub run_all_sum : (p : Pair) (q r : List Entry) → Halfway p (q ++ r) → Pairwise (q ++ r) →
    length (run_all p (q ++ r)).lines ≡ length (run_all p q).lines + length (run_all p r).lines
unfolding run_all
run_all_sum p q r h w = run_sum (length (union_of p)) (union_of p) p q r h.fine w h.light
