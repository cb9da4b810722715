-- Two kiosks that meet come away with the same keys (`meeting`): further rounds of these two, as many as there are keys held by just one of them, none
-- refused and no match false. Each round leaves the union as it was and the keys apart at least one fewer, unless there are none. In order: stores that
-- are ready; one round as an event; the rounds, from any world. Assumes nothing.
use Prim.Native.Nat.{ℕ, ◌-◌, ◌≤◌}
use mathlib.Core.Bool.{Bool, true, false, not}
use mathlib.Core.List.{List, [], ◌∷◌}
use mathlib.Core.Path.{◌≡◌, sym, ap, ◌∙◌, subst}
use native.Mathlib.Omega.{arith}
use borrow.Author.Tests.{eqb-true, not-true}
use lib.Dec.{eqb}
use lib.ListN.{length}
use Rattle.keys.specs.declared.store.Store.{Store}
use Rattle.keys.specs.Store.{limit, keys_of, store_of, in_order, all_zero}
use Rattle.keys.proofs.Tests.{and_left, and_right}
use Rattle.keys.proofs.Rising.{Rising}
use Rattle.keys.proofs.StoreLaws.{keys_of_store_of, in_order_store_of, in_order_rising}
use Rattle.claims.specs.Question.{first_no}
use Rattle.rule.specs.declared.node.Node.{Node}
use Rattle.rule.specs.declared.delivery.Delivery.{Delivery}
use Rattle.rule.specs.Round.{union, left_end, right_end}
use Rattle.rule.specs.Call.{round_questions, round_by}
use Rattle.rule.proofs.NodeLaws.{restored}
use Rattle.rule.proofs.Union.{union_comm}
use Rattle.rule.proofs.RoundLaws.{Rounded}
use Rattle.rule.proofs.CallLaws.{RoundYes, round_questions_yes, round_yes_rounded, met_zero}
use Rattle.meeting.specs.Event.{Event, meets}
use Rattle.meeting.specs.World.{World, with_store, Outcome, outcome, after, after_all, numbers}
use Rattle.meeting.specs.Statement.{keys_in, apart, Turn, straight, turned, rounds, false_in, none_false}
use Rattle.meeting.proofs.Apart.{apart_none, apart_round}
use Rattle.meeting.proofs.WorldLaws.{with_node_here, with_node_there, meets_done}

-- ---- stores that are ready

pub record Ready (s : Store) : Type 0 where
  pub order : in_order s ≡ true
  pub laid : s ≡ store_of (keys_of s)

ready_store_of : (l : List ℕ) → Rising l → length l ≤ limit → Ready (store_of l)
ready_store_of l r h = record { order = in_order_store_of l r h; laid = ap store_of (sym (keys_of_store_of l)) }

-- ---- one round, as an event that was not refused

pub meets_zero : (k m : ℕ) (lent : List Delivery) (kiosks : ℕ → Node) → (outcome (meets k m lent) kiosks).number ≡ 0 →
    first_no (round_questions (kiosks k).store (kiosks m).store (length lent)) ≡ 0
unfolding outcome
meets_zero k m lent kiosks = met_zero (kiosks k).store (kiosks m).store (length lent)

-- what a round leaves, of kiosks k on the left and m on the right
pub record Stepped (w : World) (k m : ℕ) (w' : World) : Type 0 where
  pub left : Ready (w'.kiosks k).store
  pub right : Ready (w'.kiosks m).store
  pub same_union : union (keys_in w' k) (keys_in w' m) ≡ union (keys_in w k) (keys_in w m)
  pub closer : apart (keys_in w' k) (keys_in w' m) ≤ apart (keys_in w k) (keys_in w m) - 1

pub meets_stepped : (w : World) (k m : ℕ) (lent : List Delivery) → (k ≡ m → ⊥) → (outcome (meets k m lent) w.kiosks).number ≡ 0 →
    false_in (meets k m lent) w ≡ false → Stepped w k m (after (meets k m lent) w)
meets_stepped w k m lent different h honest = record {
  left = subst Ready (sym at_left) (ready_store_of l (q.rises left_end) (q.fits left_end));
  right = subst Ready (sym at_right) (ready_store_of r (q.rises right_end) (q.fits right_end));
  same_union = rw (ap keys_of at_left, ap keys_of at_right, keys_of_store_of l, keys_of_store_of r) q.same_union;
  closer =
      rw (ap keys_of at_left, ap keys_of at_right, keys_of_store_of l, keys_of_store_of r)
      (apart_round (keys_of s) (keys_of t) (in_order_rising s y.left) (in_order_rising t y.right) y.fits honest);
}
  where
    s : Store
    s = (w.kiosks k).store

    t : Store
    t = (w.kiosks m).store

    z : first_no (round_questions s t (length lent)) ≡ 0
    z = meets_zero k m lent w.kiosks h

    y : RoundYes s t (length lent)
    y = round_questions_yes s t (length lent) z

    q : Rounded (keys_of s) (keys_of t)
    q = round_yes_rounded s t (length lent) y

    l : List ℕ
    l = (round_by s t).stores.left

    r : List ℕ
    r = (round_by s t).stores.right

    kiosks' : ℕ → Node
    kiosks' = with_store k (store_of l) w.kiosks

    at_left : ((after (meets k m lent) w).kiosks k).store ≡ store_of l
    at_left =
        ap (λ (o : Outcome). (o.kiosks k).store) (meets_done k m lent w.kiosks z)
        ∙ ap (λ (n : Node). n.store)
        (with_node_there m k (restored (kiosks' m) (store_of r)) kiosks' different ∙ with_node_here k (restored (w.kiosks k) (store_of l)) w.kiosks)

    at_right : ((after (meets k m lent) w).kiosks m).store ≡ store_of r
    at_right =
        ap (λ (o : Outcome). (o.kiosks m).store) (meets_done k m lent w.kiosks z)
        ∙ ap (λ (n : Node). n.store) (with_node_here m (restored (kiosks' m) (store_of r)) kiosks')

-- ---- the rounds

-- both kiosks end with the store of the keys u
abbrev pub BothEnd : World → ℕ → ℕ → List ℕ → Type 0
BothEnd w k m u = ((w.kiosks k).store ≡ store_of u) × ((w.kiosks m).store ≡ store_of u)

apart_comm : (l r : List ℕ) → apart l r ≡ apart r l
apart_comm l r = omega arith

pub meeting : (w : World) (k m : ℕ) → (k ≡ m → ⊥) → (ts : List Turn) → Ready (w.kiosks k).store → Ready (w.kiosks m).store →
    apart (keys_in w k) (keys_in w m) ≤ length ts →
    all_zero (numbers (rounds k m ts) w) ≡ true → none_false (rounds k m ts) w ≡ true → BothEnd (after_all (rounds k m ts) w) k m (union (keys_in w k) (keys_in w m))
meeting w k m different [] a b h carried honest =
    let e = apart_none (keys_in w k) (keys_in w m) (in_order_rising (w.kiosks k).store a.order) (in_order_rising (w.kiosks m).store b.order) h in
    (a.laid ∙ ap store_of e.0, b.laid ∙ ap store_of e.1)
meeting w k m different (straight lent ∷ ts) a b h carried honest =
    let e : Event = meets k m lent in
    let w' : World = after e w in
    let n : ℕ = (outcome e w.kiosks).number in
    let later : Bool = all_zero (numbers (rounds k m ts) w') in
    let here : Bool = not (false_in e w) in
    let c : Stepped w k m w'
    = meets_stepped w k m lent different (eqb-true n 0 (and_left (eqb n 0) later carried))
    (not-true (false_in e w) (and_left here (none_false (rounds k m ts) w') honest)) in
    let d : apart (keys_in w' k) (keys_in w' m) ≤ apart (keys_in w k) (keys_in w m) - 1 = c.closer in
    subst (λ (u : List ℕ). BothEnd (after_all (rounds k m ts) w') k m u) c.same_union
    (meeting w' k m different ts c.left c.right (omega arith) (and_right (eqb n 0) later carried) (and_right here (none_false (rounds k m ts) w') honest))
meeting w k m different (turned lent ∷ ts) a b h carried honest =
    let e : Event = meets m k lent in
    let w' : World = after e w in
    let n : ℕ = (outcome e w.kiosks).number in
    let later : Bool = all_zero (numbers (rounds k m ts) w') in
    let here : Bool = not (false_in e w) in
    let c : Stepped w m k w'
    = meets_stepped w m k lent (λ (i : m ≡ k). different (sym i)) (eqb-true n 0 (and_left (eqb n 0) later carried))
    (not-true (false_in e w) (and_left here (none_false (rounds k m ts) w') honest)) in
    let d : apart (keys_in w' m) (keys_in w' k) ≤ apart (keys_in w m) (keys_in w k) - 1 = c.closer in
    let d' : apart (keys_in w' k) (keys_in w' m) ≤ length ts = omega (arith, apart_comm (keys_in w' k) (keys_in w' m), apart_comm (keys_in w k) (keys_in w m)) in
    let u : union (keys_in w' k) (keys_in w' m) ≡ union (keys_in w k) (keys_in w m)
    = union_comm (keys_in w' k) (keys_in w' m) (in_order_rising (w'.kiosks k).store c.right.order) (in_order_rising (w'.kiosks m).store c.left.order)
    ∙ c.same_union
    ∙ union_comm (keys_in w m) (keys_in w k) (in_order_rising (w.kiosks m).store b.order) (in_order_rising (w.kiosks k).store a.order) in
    subst (λ (x : List ℕ). BothEnd (after_all (rounds k m ts) w') k m x) u
    (meeting w' k m different ts c.right c.left d' (and_right (eqb n 0) later carried) (and_right here (none_false (rounds k m ts) w') honest))
