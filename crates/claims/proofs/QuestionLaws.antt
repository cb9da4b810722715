-- The first question answered no: `first_no`, `settle` and the questions of Question. In order: a question in front; questions behind others;
-- `settle`; what it says of a claim that 2 to 5 and 16 are answered yes (`Passes`), both ways; 2 to 5 and 16, each by itself.
-- Not here: which claims pass (ClaimLaws). Assumes nothing.
use Prim.Native.Nat.{ℕ, ◌+◌, ◌-◌, ◌≤◌, ◌<◌}
use mathlib.Core.Bool.{Bool, true, false, cond, ◌&&◌}
use mathlib.Core.List.{List, [], ◌∷◌, ◌++◌}
use mathlib.Core.Logic.{◌⊎◌, inl, inr, ⊎_elim}
use mathlib.Core.Path.{◌≡◌, refl, sym, ap, ◌∙◌}
use native.Mathlib.Omega.{arith}
use borrow.Author.Tests.{ltb-true, lt-ltb, leb-true, le-leb, eqb-true, eq-eqb, ne_eqb}
use lib.Bits.{bit_xor}
use lib.Dec.{ltb, leb, eqb}
use Rattle.keys.specs.Store.{limit}
use Rattle.keys.proofs.Tests.{and_left, and_right, and_both, lt_or_le, eq_or_ne}
use Rattle.claims.specs.declared.claim.Claim.{Claim}
use Rattle.claims.specs.Claim.{middle_key, middle_inside}
use Rattle.claims.specs.Question.{Question, first_no, settle, question2, question3, question4, question5, question16, former_questions}
use Rattle.claims.specs.Question.{claim_questions}
use Rattle.claims.specs.Call.{judged, judged_formerly}

-- ---- a question in front

pub first_no_yes : (q : Question) (qs : List Question) → q.yes ≡ true → first_no (q ∷ qs) ≡ first_no qs
first_no_yes q qs e = rw e

pub first_no_no : (q : Question) (qs : List Question) → q.yes ≡ false → first_no (q ∷ qs) ≡ q.number
first_no_no q qs e = rw e

-- every question has a number
abbrev pub Numbered : List Question → Type 0
Numbered [] = Unit
Numbered (q ∷ qs) = (0 < q.number) × Numbered qs

pub first_no_zero : (q : Question) (qs : List Question) → 0 < q.number → first_no (q ∷ qs) ≡ 0 → (q.yes ≡ true) × (first_no qs ≡ 0)
first_no_zero q qs n h = go q.yes h
  where
    go : (t : Bool) → cond t (first_no qs) q.number ≡ 0 → (t ≡ true) × (first_no qs ≡ 0)
    go true e = (refl, e)
    go false e = absurd (omega arith)

-- ---- questions behind others

pub first_no_append_zero : (a b : List Question) → Numbered a → first_no a ≡ 0 → first_no (a ++ b) ≡ first_no b
first_no_append_zero [] b n h = refl
first_no_append_zero (q ∷ qs) b n h =
    let t = first_no_zero q qs n.0 h in
    first_no_yes q (qs ++ b) t.0 ∙ first_no_append_zero qs b n.1 t.1

pub first_no_append_no : (a b : List Question) → (first_no a ≡ 0 → ⊥) → first_no (a ++ b) ≡ first_no a
first_no_append_no [] b f = absurd (f refl)
first_no_append_no (q ∷ qs) b f = go q.yes f (first_no_append_no qs b)
  where
    go : (t : Bool) → (cond t (first_no qs) q.number ≡ 0 → ⊥) → ((first_no qs ≡ 0 → ⊥) → first_no (qs ++ b) ≡ first_no qs)
        → cond t (first_no (qs ++ b)) q.number ≡ cond t (first_no qs) q.number
    go true g rest = rest g
    go false g rest = refl

-- where none of them all is answered no, none of either part is
pub first_no_front : (a b : List Question) → first_no (a ++ b) ≡ 0 → first_no a ≡ 0
first_no_front a b h =
    ⊎_elim {C = first_no a ≡ 0} (λ (e : first_no a ≡ 0). e) (λ (f : first_no a ≡ 0 → ⊥). sym (first_no_append_no a b f) ∙ h) (eq_or_ne (first_no a) 0)

pub first_no_rest : (a b : List Question) → Numbered a → first_no (a ++ b) ≡ 0 → first_no b ≡ 0
first_no_rest a b n h = sym (first_no_append_zero a b n (first_no_front a b h)) ∙ h

-- ---- settle

pub settle_done : {A : Type 0} (n : ℕ) (done : A) (refused : ℕ → A) → n ≡ 0 → settle n done refused ≡ done
settle_done n done refused e = rw (eq-eqb n 0 e)

pub settle_refused : {A : Type 0} (n : ℕ) (done : A) (refused : ℕ → A) → (n ≡ 0 → ⊥) → settle n done refused ≡ refused n
settle_refused n done refused f = rw (ne_eqb n 0 f)

-- the number that a call returns is that of the first question answered no
pub settle_number : {A : Type 0} (number : A → ℕ) (n : ℕ) (done : A) (refused : ℕ → A) → number done ≡ 0 → ((k : ℕ) → number (refused k) ≡ k)
    → number (settle n done refused) ≡ n
settle_number number n done refused d r = go (eq_or_ne n 0)
  where
    go : (n ≡ 0) ⊎ (n ≡ 0 → ⊥) → number (settle n done refused) ≡ n
    go (inl e) = ap number (settle_done n done refused e) ∙ (d ∙ sym e)
    go (inr f) = ap number (settle_refused n done refused f) ∙ r n

-- The law of all calls on a lent run that refuse by number: where `done` has the number 0, and a refusal keeps what was given, a number other than 0
-- means that what was given is kept.
pub settle_kept : {A B : Type 0} {given : B} (number : A → ℕ) (kept : A → B) (done : A) (refused : ℕ → A)
    → number done ≡ 0 → ((n : ℕ) → kept (refused n) ≡ given) → (n : ℕ) → (number (settle n done refused) ≡ 0 → ⊥) → kept (settle n done refused) ≡ given
settle_kept {given = given} number kept done refused zero same n = go (eqb n 0)
  where
    go : (t : Bool) → (number (cond t done (refused n)) ≡ 0 → ⊥) → kept (cond t done (refused n)) ≡ given
    go true f = absurd (f zero)
    go false f = same n

-- ---- a claim that passes 2 to 5 and 16

pub record Passes (c : Claim) : Type 0 where
  pub ordered : c.lo ≤ c.hi
  pub at_least : 1 ≤ c.cnt
  pub at_most : c.cnt ≤ limit
  pub alone : c.lo ≡ c.hi → c.cnt ≡ 1
  pub several : c.lo < c.hi → (2 ≤ c.cnt) × (c.cnt ≤ c.hi - c.lo + 1)
  pub sum_one : c.cnt ≡ 1 → c.sum ≡ c.lo
  pub sum_two : c.cnt ≡ 2 → c.sum ≡ bit_xor c.lo c.hi
  pub sum_three : c.cnt ≡ 3 → (c.lo < middle_key c) × (middle_key c < c.hi)

pub former_questions_numbered : (c : Claim) → Numbered (former_questions c)
former_questions_numbered c = (omega arith, (omega arith, (omega arith, (omega arith, tt))))

pub claim_questions_numbered : (c : Claim) → Numbered (claim_questions c)
claim_questions_numbered c = (omega arith, (omega arith, (omega arith, (omega arith, (omega arith, tt)))))

pub passes : (c : Claim) → first_no (claim_questions c) ≡ 0 → Passes c
passes c h =
    let a = first_no_zero (question2 c) (question3 c ∷ question4 c ∷ question5 c ∷ question16 c ∷ []) (omega arith) h in
    let b = first_no_zero (question3 c) (question4 c ∷ question5 c ∷ question16 c ∷ []) (omega arith) a.1 in
    let d = first_no_zero (question4 c) (question5 c ∷ question16 c ∷ []) (omega arith) b.1 in
    let e = first_no_zero (question5 c) (question16 c ∷ []) (omega arith) d.1 in
    let y4 : cond (eqb c.lo c.hi) (eqb c.cnt 1) (leb 2 c.cnt && leb c.cnt (c.hi - c.lo + 1)) ≡ true = d.0 in
    let y5 : cond (eqb c.cnt 1) (eqb c.sum c.lo) (cond (eqb c.cnt 2) (eqb c.sum (bit_xor c.lo c.hi)) true) ≡ true = e.0 in
    let y16 : cond (eqb c.cnt 3) (middle_inside c) true ≡ true = (first_no_zero (question16 c) [] (omega arith) e.1).0 in
    record {
      ordered = leb-true c.lo c.hi a.0;
      at_least = leb-true 1 c.cnt (and_left (leb 1 c.cnt) (leb c.cnt limit) b.0);
      at_most = leb-true c.cnt limit (and_right (leb 1 c.cnt) (leb c.cnt limit) b.0);
      alone = λ e. eqb-true c.cnt 1 (rw (eq-eqb c.lo c.hi e) at y4);
      several = λ g.
          let z : (leb 2 c.cnt && leb c.cnt (c.hi - c.lo + 1)) ≡ true = rw (ne_eqb c.lo c.hi (λ (e : c.lo ≡ c.hi). omega arith)) at y4 in (
            leb-true 2 c.cnt (and_left (leb 2 c.cnt) (leb c.cnt (c.hi - c.lo + 1)) z),
            leb-true c.cnt (c.hi - c.lo + 1) (and_right (leb 2 c.cnt) (leb c.cnt (c.hi - c.lo + 1)) z),
          );
      sum_one = λ e. eqb-true c.sum c.lo (rw (eq-eqb c.cnt 1 e) at y5);
      sum_two = λ e. eqb-true c.sum (bit_xor c.lo c.hi) (rw (ne_eqb c.cnt 1 (λ (f : c.cnt ≡ 1). omega arith), eq-eqb c.cnt 2 e) at y5);
      sum_three = λ e.
          let z : middle_inside c ≡ true = rw (eq-eqb c.cnt 3 e) at y16 in (
            ltb-true c.lo (middle_key c) (and_left (ltb c.lo (middle_key c)) (ltb (middle_key c) c.hi) z),
            ltb-true (middle_key c) c.hi (and_right (ltb c.lo (middle_key c)) (ltb (middle_key c) c.hi) z),
          );
    }

pub passes_question4 : (c : Claim) → Passes c → (question4 c).yes ≡ true
passes_question4 c p =
    ⊎_elim
    {C = (question4 c).yes ≡ true}
    (λ (e : c.lo ≡ c.hi). rw (eq-eqb c.lo c.hi e) (eq-eqb c.cnt 1 (p.alone e)))
    (λ (f : c.lo ≡ c.hi → ⊥).
    let o : c.lo ≤ c.hi = p.ordered in
    let g : c.lo < c.hi =
    ⊎_elim {C = c.lo < c.hi} (λ (z : c.lo < c.hi). z) (λ (z : c.hi ≤ c.lo). absurd (f (omega arith))) (lt_or_le c.lo c.hi) in
    rw (ne_eqb c.lo c.hi f)
    (and_both (leb 2 c.cnt) (leb c.cnt (c.hi - c.lo + 1)) (le-leb 2 c.cnt (p.several g).0)
    (le-leb c.cnt (c.hi - c.lo + 1) (p.several g).1)))
    (eq_or_ne c.lo c.hi)

pub passes_question5 : (c : Claim) → Passes c → (question5 c).yes ≡ true
passes_question5 c p = go (eq_or_ne c.cnt 1) (eq_or_ne c.cnt 2)
  where
    go : (c.cnt ≡ 1) ⊎ (c.cnt ≡ 1 → ⊥) → (c.cnt ≡ 2) ⊎ (c.cnt ≡ 2 → ⊥) → (question5 c).yes ≡ true
    go (inl e) z = rw (eq-eqb c.cnt 1 e) (eq-eqb c.sum c.lo (p.sum_one e))
    go (inr f) (inl e) = rw (ne_eqb c.cnt 1 f, eq-eqb c.cnt 2 e) (eq-eqb c.sum (bit_xor c.lo c.hi) (p.sum_two e))
    go (inr f) (inr g) = rw (ne_eqb c.cnt 1 f, ne_eqb c.cnt 2 g)

pub passes_question16 : (c : Claim) → Passes c → (question16 c).yes ≡ true
passes_question16 c p = go (eq_or_ne c.cnt 3)
  where
    go : (c.cnt ≡ 3) ⊎ (c.cnt ≡ 3 → ⊥) → (question16 c).yes ≡ true
    go (inl e) =
        rw (eq-eqb c.cnt 3 e, lt-ltb c.lo (middle_key c) (p.sum_three e).0, lt-ltb (middle_key c) c.hi (p.sum_three e).1)
    go (inr f) = rw (ne_eqb c.cnt 3 f)

pub passes_first_no : (c : Claim) → Passes c → first_no (claim_questions c) ≡ 0
passes_first_no c p =
    first_no_yes (question2 c) (question3 c ∷ question4 c ∷ question5 c ∷ question16 c ∷ []) (le-leb c.lo c.hi p.ordered)
    ∙ first_no_yes (question3 c) (question4 c ∷ question5 c ∷ question16 c ∷ [])
    (and_both (leb 1 c.cnt) (leb c.cnt limit) (le-leb 1 c.cnt p.at_least) (le-leb c.cnt limit p.at_most))
    ∙ first_no_yes (question4 c) (question5 c ∷ question16 c ∷ []) (passes_question4 c p)
    ∙ first_no_yes (question5 c) (question16 c ∷ []) (passes_question5 c p)
    ∙ first_no_yes (question16 c) [] (passes_question16 c p)

pub judged_first_no : (c : Claim) → judged c ≡ first_no (claim_questions c)
unfolding judged
judged_first_no c = refl

-- ---- 2 to 5, and 16, each by itself

pub judged_formerly_lem : (c : Claim) → judged c ≡ 0 → (judged_formerly c ≡ 0) × ((question16 c).yes ≡ true)
unfolding judged judged_formerly
judged_formerly_lem c h = (
  first_no_front (former_questions c) (question16 c ∷ []) h,
  (first_no_zero (question16 c) [] (omega arith) (first_no_rest (former_questions c) (question16 c ∷ []) (former_questions_numbered c) h)).0,
)

pub formerly_judged : (c : Claim) → judged_formerly c ≡ 0 → (question16 c).yes ≡ true → judged c ≡ 0
unfolding judged judged_formerly
formerly_judged c h told =
    first_no_append_zero (former_questions c) (question16 c ∷ []) (former_questions_numbered c) h ∙ first_no_yes (question16 c) [] told
