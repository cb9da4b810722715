-- Claims as claims of spans: `claim_of`, `whole_claim` of Claim and `same` of Reply. In order: two claims are equal by their fields, which is what
-- `same` tests; the claim of a list of keys (`span_claim`), which is the claim for positions i to j of its store; the middle key that the claim of three
-- tells; a claim that a store makes passes questions 2 to 5 and 16; the whole claim; the claim of the keys from lo to hi (`range_claim`).
-- Not here: what the questions say of a claim (QuestionLaws). Assumes nothing.
use Prim.Native.Nat.{ℕ, ◌+◌, ◌-◌, ◌≤◌, ◌<◌}
use mathlib.Core.Bool.{true, ◌&&◌}
use mathlib.Core.List.{List, [], ◌∷◌, Memᴰ}
use mathlib.Core.Path.{◌≡◌, refl, sym, ap, ◌∙◌, subst}
use native.Mathlib.Nat.{not-suc-le-zero}
use native.Mathlib.Omega.{arith}
use borrow.Author.Tests.{eqb-true, eq-eqb}
use lib.Dec.{eqb}
use lib.ListN.{length, get_or}
use lib.Seq.{take_all}
use Rattle.keys.specs.Store.{limit}
use Rattle.keys.proofs.Tests.{and_left, and_right, and_both}
use Rattle.keys.proofs.Rising.{Rising}
use Rattle.claims.specs.declared.claim.Claim.{Claim}
use Rattle.claims.specs.Claim.{span, xor_all, claim_of, whole_claim, between, middle_key}
use Rattle.claims.specs.Question.{first_no, claim_questions}
use Rattle.claims.specs.Reply.{same}
use Rattle.claims.proofs.Xor.{xor_all_one, xor_all_two, xor_all_three}
use Rattle.claims.proofs.Between.{length_rising_range}
use Rattle.claims.proofs.Span.{first, last, first_le, le_last, first_le_last, first_lt_last, one_key, two_keys, first_between, last_between}
use Rattle.claims.proofs.Span.{length_span, first_span, last_span, span_rising, span_between}
use Rattle.claims.proofs.QuestionLaws.{Passes, passes_first_no}

-- ---- equal claims

pub claim_ext : (c d : Claim) → c.lo ≡ d.lo → c.hi ≡ d.hi → c.sum ≡ d.sum → c.cnt ≡ d.cnt → c ≡ d
claim_ext c d p q r s = λ i. record { lo = p i; hi = q i; sum = r i; cnt = s i }

pub same_claim : (c d : Claim) → same c d ≡ true → c ≡ d
same_claim c d h =
    let lo = eqb c.lo d.lo in
    let hi = eqb c.hi d.hi in
    let sum = eqb c.sum d.sum in
    let cnt = eqb c.cnt d.cnt in
    let three : (lo && hi && sum) ≡ true = and_left (lo && hi && sum) cnt h in
    let two : (lo && hi) ≡ true = and_left (lo && hi) sum three in
    claim_ext c d
    (eqb-true c.lo d.lo (and_left lo hi two))
    (eqb-true c.hi d.hi (and_right lo hi two))
    (eqb-true c.sum d.sum (and_right (lo && hi) sum three))
    (eqb-true c.cnt d.cnt (and_right (lo && hi && sum) cnt h))

pub claim_same : (c d : Claim) → c ≡ d → same c d ≡ true
claim_same c d e =
    let lo = eqb c.lo d.lo in
    let hi = eqb c.hi d.hi in
    let sum = eqb c.sum d.sum in
    let cnt = eqb c.cnt d.cnt in
    and_both (lo && hi && sum) cnt
    (and_both (lo && hi) sum
    (and_both lo hi (eq-eqb c.lo d.lo (ap (λ (x : Claim). x.lo) e)) (eq-eqb c.hi d.hi (ap (λ (x : Claim). x.hi) e)))
    (eq-eqb c.sum d.sum (ap (λ (x : Claim). x.sum) e)))
    (eq-eqb c.cnt d.cnt (ap (λ (x : Claim). x.cnt) e))

-- ---- the claim of a list of keys

-- its first key, its last, its sum, and how many they are
abbrev pub span_claim : List ℕ → Claim
span_claim l = record { lo = first l; hi = last l; sum = xor_all l; cnt = length l }

pub claim_of_span : (i j : ℕ) (l : List ℕ) → i ≤ j → j < length l → claim_of i j l ≡ span_claim (span i j l)
claim_of_span i j l h g =
    claim_ext (claim_of i j l) (span_claim (span i j l)) (sym (first_span i j l)) (sym (last_span i j l h g)) refl (sym (length_span i j l h g))

pub claim_of_between : (i j : ℕ) (l : List ℕ) → Rising l → i ≤ j → j < length l → claim_of i j l ≡ span_claim (between (get_or l i 0) (get_or l j 0) l)
claim_of_between i j l r h g = claim_of_span i j l h g ∙ ap span_claim (span_between i j l r h g)

-- ---- the middle key of three

-- the key that the claim of three keys tells is the one between
pub three_keys : (l : List ℕ) → length l ≡ 3 → l ≡ first l ∷ middle_key (span_claim l) ∷ last l ∷ []
three_keys [] e = absurd (omega arith)
three_keys (j ∷ []) e = absurd (omega arith)
three_keys (j ∷ (k ∷ [])) e = absurd (omega arith)
three_keys (j ∷ (k ∷ (m ∷ []))) e = ap (λ (x : ℕ). j ∷ x ∷ m ∷ []) (sym (xor_all_three j k m))
three_keys (j ∷ (k ∷ (m ∷ (x ∷ xs)))) e = absurd (omega arith)

pub middle_key_span : (l : List ℕ) → length l ≡ 3 → Memᴰ (middle_key (span_claim l)) l
middle_key_span l e = subst (Memᴰ (middle_key (span_claim l))) (sym (three_keys l e)) (Memᴰ.tail (Memᴰ.head refl))

pub middle_key_inside : (l : List ℕ) → Rising l → length l ≡ 3 → ((span_claim l).lo < middle_key (span_claim l)) × (middle_key (span_claim l) < (span_claim l).hi)
middle_key_inside l r e = let ((lower, _), ((upper, _), _)) = subst Rising (three_keys l e) r in (lower, upper)

-- ---- it passes questions 2 to 5 and 16

pub span_claim_passes : (l : List ℕ) → Rising l → 0 < length l → length l ≤ limit → Passes (span_claim l)
span_claim_passes [] r h g = absurd (not-suc-le-zero h)
span_claim_passes (x ∷ xs) r h g = record {
  ordered = first_le_last (x ∷ xs) r;
  at_least = h;
  at_most = g;
  alone = λ e. ones xs r e;
  several = λ p. (more xs p, length_rising_range x (last (x ∷ xs)) (x ∷ xs) r (λ k m. (first_le (x ∷ xs) r k m, le_last (x ∷ xs) r k m)));
  sum_one = λ e. ap xor_all (one_key (x ∷ xs) e) ∙ xor_all_one x;
  sum_two = λ e. ap xor_all (two_keys (x ∷ xs) e) ∙ xor_all_two x (last (x ∷ xs));
  sum_three = λ e. middle_key_inside (x ∷ xs) r e;
}
  where
    ones : (ks : List ℕ) → Rising (x ∷ ks) → x ≡ last (x ∷ ks) → length (x ∷ ks) ≡ 1
    ones [] q e = refl
    ones (k ∷ ks) q e = let p : x < last (x ∷ (k ∷ ks)) = first_lt_last (x ∷ (k ∷ ks)) q (omega arith) in absurd (omega arith)

    more : (ks : List ℕ) → x < last (x ∷ ks) → 2 ≤ length (x ∷ ks)
    more [] p = absurd (omega arith)
    more (k ∷ ks) p = omega arith

pub claim_of_passes : (i j : ℕ) (l : List ℕ) → Rising l → length l ≤ limit → i ≤ j → j < length l → Passes (claim_of i j l)
claim_of_passes i j l r f h g =
    let n : length (span i j l) ≡ j - i + 1 = length_span i j l h g in
    rw (claim_of_span i j l h g) (span_claim_passes (span i j l) (span_rising i j l r) (omega arith) (omega arith))

pub claim_of_first_no : (i j : ℕ) (l : List ℕ) → Rising l → length l ≤ limit → i ≤ j → j < length l → first_no (claim_questions (claim_of i j l)) ≡ 0
claim_of_first_no i j l r f h g = passes_first_no (claim_of i j l) (claim_of_passes i j l r f h g)

-- ---- the whole claim

pub span_whole : (k : ℕ) (ks : List ℕ) → span 0 (length ks) (k ∷ ks) ≡ k ∷ ks
span_whole k ks = take_all (length ks - 0 + 1) (k ∷ ks) (omega arith)

pub whole_claim_span : (l : List ℕ) → 0 < length l → whole_claim l ≡ span_claim l ∷ []
whole_claim_span [] h = absurd (not-suc-le-zero h)
whole_claim_span (k ∷ ks) h =
    ap (λ (c : Claim). c ∷ [])
    (claim_of_span 0 (length ks) (k ∷ ks) (omega arith) (omega arith) ∙ ap span_claim (span_whole k ks))

-- ---- the claim of the keys from lo to hi, both of them held

abbrev pub range_claim : ℕ → ℕ → List ℕ → Claim
range_claim lo hi l = record { lo = lo; hi = hi; sum = xor_all (between lo hi l); cnt = length (between lo hi l) }

pub span_claim_range : (lo hi : ℕ) (l : List ℕ) → Rising l → lo ≤ hi → Memᴰ lo l → Memᴰ hi l → span_claim (between lo hi l) ≡ range_claim lo hi l
span_claim_range lo hi l r h m n =
    claim_ext (span_claim (between lo hi l)) (range_claim lo hi l) (first_between lo hi l r h m) (last_between lo hi l r h n) refl refl
