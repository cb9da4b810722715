-- E (specs/Cost). In order: what the table tells; the equations of document 02, slip 5; E(n) is at most n. Assumes nothing.
use Prim.Native.Nat.{ℕ, zero, suc, ◌+◌, ◌-◌, ◌≤◌, ◌<◌}
use mathlib.Core.List.{List, [], ◌∷◌}
use mathlib.Core.Logic.{⊎_elim}
use mathlib.Core.Path.{◌≡◌, refl, sym, ap, ap₂, ◌∙◌, subst}
use native.Mathlib.Omega.{arith}
use borrow.Author.Tests.{le-leb, lt-leb, ne_eqb}
use lib.ListN.{length, length-append, get_or-append}
use lib.Seq.{get_or-append-add}
use Rattle.keys.proofs.Tests.{lt_or_le}
use Rattle.opening.specs.Cost.{cut, cost_by, told, costs_below, opening_cost}

-- ---- what the table tells

length_costs_below : (n : ℕ) → length (costs_below n) ≡ n
length_costs_below zero = refl
length_costs_below (suc n) =
    omega (arith, length-append (costs_below n) (cost_by (told (costs_below n)) (length (costs_below n)) ∷ []), length_costs_below n)

-- at each place the cost of so many keys
told_costs_below : (n i : ℕ) → i < n → told (costs_below n) i ≡ opening_cost i
unfolding opening_cost
told_costs_below zero i h = absurd (omega arith)
told_costs_below (suc n) i h = ⊎_elim {C = told (costs_below (suc n)) i ≡ opening_cost i} (before (told_costs_below n i)) last (lt_or_le i n)
  where
    t : List ℕ
    t = costs_below n

    next : List ℕ
    next = cost_by (told t) (length t) ∷ []

    before : (i < n → told t i ≡ opening_cost i) → i < n → told (costs_below (suc n)) i ≡ opening_cost i
    before below g = get_or-append t next 0 i (subst (λ (x : ℕ). i < x) (sym (length_costs_below n)) g) ∙ below g

    last : n ≤ i → told (costs_below (suc n)) i ≡ opening_cost i
    last g =
        let e : n ≡ i = omega arith in
        let z : i ≡ length t + 0 = omega (arith, length_costs_below n) in
        ap (told (costs_below (suc n))) z
        ∙ get_or-append-add t next 0 0
        ∙ ap (cost_by (told t)) (length_costs_below n)
        ∙ ap opening_cost e

-- ---- the equations

-- "none for n = 0"
pub opening_cost_none : opening_cost 0 ≡ 0
unfolding opening_cost
opening_cost_none = refl

-- "Let E(1), E(2), E(3) be 1."
pub opening_cost_few : (n : ℕ) → 1 ≤ n → n ≤ 3 → opening_cost n ≡ 1
unfolding opening_cost
opening_cost_few n h g = rw (ne_eqb n 0 (λ e. omega arith), le-leb n 3 g)

-- "For n of 4 or 5, E(n) is 2 + E(n − 2)."
pub opening_cost_one : (n : ℕ) → 4 ≤ n → n ≤ 5 → opening_cost n ≡ 2 + opening_cost (n - 2)
unfolding opening_cost
opening_cost_one n h g =
    rw (ne_eqb n 0 (λ e. omega arith), lt-leb n 3 h, le-leb n 5 g) (ap (λ (x : ℕ). 2 + x) (told_costs_below n (n - 2) (omega arith)))

-- "For greater n it is 2 + E(z + 1) + E(n − 3 − z), with z = (n − 2) div 2."
pub opening_cost_two : (n : ℕ) → 6 ≤ n → opening_cost n ≡ 2 + opening_cost (cut n + 1) + opening_cost (n - 3 - cut n)
unfolding opening_cost
opening_cost_two n h =
    rw (ne_eqb n 0 (λ e. omega arith), lt-leb n 3 (omega arith), lt-leb n 5 h)
    (ap₂ (λ (x y : ℕ). 2 + x + y) (told_costs_below n (cut n + 1) (omega arith)) (told_costs_below n (n - 3 - cut n) (omega arith)))

-- ---- it is at most n, since the parts of n make n − 2 together

-- of at most m keys
cost_le : (m n : ℕ) → n ≤ m → opening_cost n ≤ n
cost_le zero n h = subst (λ (x : ℕ). opening_cost x ≤ x) (let e : 0 ≡ n = omega arith in e) (omega (arith, opening_cost_none))
cost_le (suc m) n h =
    ⊎_elim
    {C = opening_cost n ≤ n}
    (λ (g : 5 < n). omega (arith, opening_cost_two n g, cost_le m (cut n + 1) (omega arith), cost_le m (n - 3 - cut n) (omega arith)))
    (λ (g : n ≤ 5).
    ⊎_elim
    {C = opening_cost n ≤ n}
    (λ (f : 3 < n). omega (arith, opening_cost_one n f g, cost_le m (n - 2) (omega arith)))
    (few n)
    (lt_or_le 3 n))
    (lt_or_le 5 n)
  where
    few : (k : ℕ) → k ≤ 3 → opening_cost k ≤ k
    few zero g = omega (arith, opening_cost_none)
    few (suc k) g = omega (arith, opening_cost_few (suc k) (omega arith) g)

pub opening_cost_le : (n : ℕ) → opening_cost n ≤ n
opening_cost_le n = cost_le n n (omega arith)
