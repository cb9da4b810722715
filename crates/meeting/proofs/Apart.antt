-- How many keys are held by just one of two stores: `apart` of Statement. In order: it and both sizes make up twice the union; none apart are equal
-- stores; a round in which no match is false leaves at least one fewer (`apart_round`). Assumes nothing.
use Prim.Native.Nat.{ℕ, suc, ◌+◌, ◌-◌, ◌*◌, ◌≤◌, ◌<◌}
use mathlib.Core.Bool.{Bool, true, false, cond}
use mathlib.Core.List.{List, [], ◌∷◌}
use mathlib.Core.Logic.{⊎_elim}
use mathlib.Core.Path.{◌≡◌, refl, sym, ap, ◌∙◌}
use native.Mathlib.Omega.{arith}
use lib.ListN.{length}
use Rattle.keys.specs.Store.{limit, holds, insert}
use Rattle.keys.proofs.Tests.{lt_or_le}
use Rattle.keys.proofs.Rising.{Above, Rising, rising_same, mem_holds, holds_mem, holds_absent, absent_holds}
use Rattle.keys.proofs.Insert.{mem_insert_old, insert_mem, insert_rising, insert_held, length_insert_missing}
use Rattle.rule.specs.Round.{union, left_end, right_end, pair, any_false, round_of}
use Rattle.rule.proofs.Union.{union_self, union_comm, union_rising, union_left, union_right, length_left_union, length_right_union}
use Rattle.rule.proofs.Pair.{size, rises_pair}
use Rattle.rule.proofs.RoundLaws.{Rounded, rounded}
use Rattle.meeting.specs.Statement.{without, apart}
use Rattle.meeting.proofs.Progress.{grows_size, progress}

-- ---- with both sizes, twice the union

holds_insert : (j k : ℕ) (r : List ℕ) → (j ≡ k → ⊥) → holds j (insert k r) ≡ holds j r
holds_insert j k r f = go (holds j r) refl
  where
    go : (t : Bool) → holds j r ≡ t → holds j (insert k r) ≡ t
    go true e = mem_holds j (insert k r) (mem_insert_old k r j (holds_mem j r e))
    go false e = absent_holds j (insert k r) (λ m. ⊎_elim {C = ⊥} f (holds_absent j r e) (insert_mem k r j m))

without_insert : (k : ℕ) (r l : List ℕ) → Above k l → without (insert k r) l ≡ without r l
without_insert k r [] a = refl
without_insert k r (j ∷ js) a =
    let f : j ≡ k → ⊥ = λ e. let p : k < j = a.0 in omega arith in
    let e : holds j (insert k r) ≡ holds j r = holds_insert j k r f in
    let i : without (insert k r) js ≡ without r js = without_insert k r js a.1 in
    cc

pub length_union_without : (l r : List ℕ) → Rising l → Rising r → length (union l r) ≡ length r + length (without r l)
length_union_without [] r p q = omega arith
length_union_without (k ∷ ks) r p q = go (holds k r) refl (length_union_without ks (insert k r) p.1 (insert_rising k r q))
  where
    go : (t : Bool) → holds k r ≡ t → length (union ks (insert k r)) ≡ length (insert k r) + length (without (insert k r) ks) →
        length (union ks (insert k r)) ≡ length r + length (cond t (without r ks) (k ∷ without r ks))
    go true e h =
        let i : insert k r ≡ r = insert_held k r q (holds_mem k r e) in
        let a : length (insert k r) ≡ length r = ap length i in
        let b : length (without (insert k r) ks) ≡ length (without r ks) = ap (λ (x : List ℕ). length (without x ks)) i in
        omega arith
    go false e h =
        let a : length (insert k r) ≡ suc (length r) = length_insert_missing k r (holds_absent k r e) in
        let b : length (without (insert k r) ks) ≡ length (without r ks) = ap length (without_insert k r ks p.0) in
        omega arith

pub apart_size : (l r : List ℕ) → Rising l → Rising r → length l + length r + apart l r ≡ 2 * length (union l r)
apart_size l r p q =
    let a : length (union l r) ≡ length r + length (without r l) = length_union_without l r p q in
    let b : length (union r l) ≡ length l + length (without l r) = length_union_without r l q p in
    let c : length (union l r) ≡ length (union r l) = ap length (union_comm l r p q) in
    omega arith

-- ---- none apart

pub apart_none : (l r : List ℕ) → Rising l → Rising r → apart l r ≤ 0 → (l ≡ union l r) × (r ≡ union l r)
apart_none l r p q h =
    let a : length l + length r + apart l r ≡ 2 * length (union l r) = apart_size l r p q in
    let b : length l ≤ length (union l r) = length_left_union l r p q in
    let c : length r ≤ length (union l r) = length_right_union l r q in (
      rising_same l (union l r) p (union_rising l r q) (union_left l r) (omega arith),
      rising_same r (union l r) q (union_rising l r q) (union_right l r) (omega arith),
    )

-- ---- a round

pub apart_round : (l r : List ℕ) → Rising l → Rising r → length (union l r) ≤ limit → any_false (round_of l r).lines ≡ false →
    apart (round_of l r).stores.left (round_of l r).stores.right ≤ apart l r - 1
apart_round l r p q h honest =
    let o : Rounded l r = rounded l r p q h in
    let a : length l + length r + apart l r ≡ 2 * length (union l r) = apart_size l r p q in
    let b : size (round_of l r).stores + apart (round_of l r).stores.left (round_of l r).stores.right
    ≡ 2 * length (union (round_of l r).stores.left (round_of l r).stores.right)
    = apart_size (round_of l r).stores.left (round_of l r).stores.right (o.rises left_end) (o.rises right_end) in
    let c : length (union (round_of l r).stores.left (round_of l r).stores.right) ≡ length (union l r) = ap length o.same_union in
    ⊎_elim
    {C = apart (round_of l r).stores.left (round_of l r).stores.right ≤ apart l r - 1}
    (λ (g : length l + length r < size (round_of l r).stores). omega arith)
    (λ (g : size (round_of l r).stores ≤ length l + length r).
    let e : l ≡ r = progress l r p q h honest g in
    let d : length (union l r) ≡ length l = ap length (ap (λ (x : List ℕ). union l x) (sym e) ∙ union_self l p) in
    let i : length l ≡ length r = ap length e in
    let j : length l + length r ≤ size (round_of l r).stores = grows_size (pair l r) (round_of l r).stores (rises_pair l r p q) o.rises o.grown in
    omega arith)
    (lt_or_le (length l + length r) (size (round_of l r).stores))
