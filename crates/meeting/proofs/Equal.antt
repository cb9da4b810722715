-- A round of two equal stores changes nothing and makes at most two deliveries (`round_equal`): both whole claims match. Assumes nothing.
use Prim.Native.Nat.{ℕ, ◌≤◌, ◌<◌}
use mathlib.Core.Bool.{true}
use mathlib.Core.List.{List, [], ◌∷◌}
use mathlib.Core.Path.{◌≡◌, refl, sym, ap, ◌∙◌, subst}
use native.Mathlib.Omega.{arith}
use lib.ListN.{length, length-append}
use Rattle.keys.specs.declared.store.Store.{Store}
use Rattle.keys.specs.Store.{limit, keys_of, store_of}
use Rattle.keys.proofs.Rising.{Rising}
use Rattle.keys.proofs.StoreLaws.{in_order_rising}
use Rattle.claims.specs.declared.claim.Claim.{Claim}
use Rattle.claims.specs.Answer.{Answer}
use Rattle.claims.specs.Answer.{Match}
use Rattle.claims.specs.Claim.{whole_claim}
use Rattle.claims.specs.Question.{first_no}
use Rattle.claims.specs.Reply.{hear, own, same, answer, reply, claims_of}
use Rattle.claims.proofs.Span.{mem_first, mem_last, first_le_last, between_first_last}
use Rattle.claims.proofs.ClaimLaws.{span_claim, claim_same, whole_claim_span}
use Rattle.claims.proofs.ReplyLaws.{adding_span, hear_held, own_between}
use Rattle.rule.specs.Round.{End, left_end, right_end, other, Pair, pair, keys_at, holding, Entry, entry}
use Rattle.rule.specs.Round.{waits, delivered, answers, line, Run, noting, run_all, half, round_of}
use Rattle.rule.specs.Call.{round_questions, met}
use Rattle.rule.proofs.Union.{union_self}
use Rattle.rule.proofs.Pair.{rises_pair, holding_same}
use Rattle.rule.proofs.Half.{Halfway, halfway_opening, opening, half_opening, run_all_nil, run_all_cons}
use Rattle.rule.proofs.CallLaws.{RoundYes, round_questions_yes, met_done}

answer_match : (c : Claim) (l : List ℕ) → same (own c l) c ≡ true → answer c l ≡ Match
unfolding answer
answer_match c l h = rw h

-- a store matches its own whole claim, and adds nothing
whole_heard : (l : List ℕ) → Rising l → 0 < length l → hear (span_claim l) l ≡ l
whole_heard l r n = hear_held (span_claim l) l r (adding_span l l n)

whole_match : (l : List ℕ) → Rising l → 0 < length l → reply (span_claim l) l ≡ Match
whole_match l r n =
    let o : own (span_claim l) l ≡ span_claim l
    = own_between (span_claim l) l r (first_le_last l r) (mem_first l n) (mem_last l n) ∙ ap span_claim (between_first_last l r) in
    ap (answer (span_claim l)) (whole_heard l r n) ∙ answer_match (span_claim l) l (claim_same (own (span_claim l) l) (span_claim l) o)

keys_at_twin : (s : End) (l : List ℕ) → keys_at s (pair l l) ≡ l
keys_at_twin left_end l = refl
keys_at_twin right_end l = refl

record Still (l : List ℕ) (r : Run) : Type 0 where
  stores : r.stores ≡ pair l l
  few : length r.lines ≤ 1

half_equal : (s : End) (l : List ℕ) → Rising l → length l ≤ limit → Still l (half s (pair l l))
half_equal s l r h = subst (Still l) (sym (half_opening s (pair l l))) (go l refl)
  where
    p : Pair
    p = pair l l

    way : Halfway p (opening s p)
    way = halfway_opening s p (rises_pair l l r r) (subst (λ (u : List ℕ). length u ≤ limit) (sym (union_self l r)) h)

    go : (k : List ℕ) → l ≡ k → Still l (run_all p (opening s p))
    go [] e =
        let i : opening s p ≡ [] = ap (λ (x : List ℕ). waits s x (whole_claim x)) (keys_at_twin s l ∙ e) in
        subst (λ (q : List Entry). Still l (run_all p q)) (sym i) (subst (Still l) (sym (run_all_nil p)) (record { stores = refl; few = omega arith }))
    go (k ∷ ks) e =
        let x : Entry = entry s l (span_claim l) in
        let n : 0 < length l = subst (λ (y : List ℕ). 0 < length y) (sym e) (omega arith) in
        let i : opening s p ≡ x ∷ [] = ap (λ (y : List ℕ). waits s y (whole_claim y)) (keys_at_twin s l) ∙ ap (waits s l) (whole_claim_span l n) in
        let heard : hear (span_claim l) (keys_at (other s) p) ≡ l = ap (hear (span_claim l)) (keys_at_twin (other s) l) ∙ whole_heard l r n in
        let answered : reply (span_claim l) (keys_at (other s) p) ≡ Match = ap (reply (span_claim l)) (keys_at_twin (other s) l) ∙ whole_match l r n in
        let same_pair : delivered x p ≡ p = ap (λ (y : List ℕ). holding (other s) y p) (heard ∙ sym (keys_at_twin (other s) l)) ∙ holding_same (other s) p in
        let none : answers x p ≡ [] = ap (λ (a : Answer). waits (other s) (hear (span_claim l) (keys_at (other s) p)) (claims_of a)) answered in
        let w : Halfway p (x ∷ []) = subst (Halfway p) i way in
        let j : run_all p (opening s p) ≡ noting (line x p) (record { stores = p; lines = []; waiting = [] })
        = ap (run_all p) i
        ∙ run_all_cons p x [] w
        ∙ ap (noting (line x p)) (ap (λ (y : Pair). run_all y (answers x p)) same_pair ∙ ap (run_all p) none ∙ run_all_nil p) in
        subst (Still l) (sym j) (record { stores = refl; few = omega arith })

-- over the keys ..
pub round_equal : (l : List ℕ) → Rising l → length l ≤ limit → ((round_of l l).stores ≡ pair l l) × (length (round_of l l).lines ≤ 2)
unfolding round_of
round_equal l r h =
    let a : Still l (half left_end (pair l l)) = half_equal left_end l r h in
    let b : Still l (half right_end (half left_end (pair l l)).stores)
    = subst (λ (p : Pair). Still l (half right_end p)) (sym a.stores) (half_equal right_end l r h) in
    let f : length (half left_end (pair l l)).lines ≤ 1 = a.few in
    let g : length (half right_end (half left_end (pair l l)).stores).lines ≤ 1 = b.few in
    (b.stores, rw (length-append (half left_end (pair l l)).lines (half right_end (half left_end (pair l l)).stores).lines) (omega arith))

-- .. and as the call: a store that is laid out as the store of its keys comes back in every place
pub met_equal : (s : Store) (n : ℕ) → s ≡ store_of (keys_of s) → first_no (round_questions s s n) ≡ 0 →
    ((met s s n).left ≡ s) × ((met s s n).right ≡ s) × ((met s s n).deliveries ≤ 2)
met_equal s n laid z =
    let y : RoundYes s s n = round_questions_yes s s n z in
    let r : Rising (keys_of s) = in_order_rising s y.left in
    let h : length (keys_of s) ≤ limit = subst (λ (u : List ℕ). length u ≤ limit) (union_self (keys_of s) r) y.fits in
    let e = round_equal (keys_of s) r h in
    rw (met_done s s n z) (ap (λ (p : Pair). store_of p.left) e.0 ∙ sym laid, ap (λ (p : Pair). store_of p.right) e.0 ∙ sym laid, e.1)
