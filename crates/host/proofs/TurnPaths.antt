-- The claims of a frame taken in turn, by a node in order: one turn of the code, after which it is in order and its run of keys has all its places; then its
-- number is that of the first question 6 answered no, and its node the one that took all; that one is in order. Assumes nothing.
use Prim.Native.Nat.{ℕ, ◌+◌, ◌≤◌, ◌<◌}
use native.Mathlib.Omega.{arith}
use native.Mathlib.Numerals.{add-one}
use mathlib.Core.Bool.{Bool, true, false, cond}
use mathlib.Core.List.{List, [], ◌∷◌}
use mathlib.Core.Logic.{⊎_elim, ◌≢◌}
use mathlib.Core.Path.{◌≡◌, refl, ap, sym, ◌∙◌, subst}
use borrow.Author.Tests.{eqb-true, eqb-false, eq-eqb, ne_eqb}
use lib.Dec.{eqb}
use lib.ListN.{length, drop, get_or, drop_of_length-le}
use lib.Seq.{drop-cons}
use Rattle.keys.proofs.Tests.{and_left, and_right, eq_or_ne}
use Rattle.claims.specs.declared.claim.Claim.{Claim}
use Rattle.claims.specs.Claim.{no_claim}
use Rattle.claims.specs.Call.{judged}
use Rattle.claims.specs.Question.{first_no, question6}
use Rattle.claims.specs.Reply.{ends, hear}
use Rattle.claims.proofs.QuestionLaws.{Numbered, first_no_yes, first_no_no}
use Rattle.claims.proofs.RefusalLaws.{refusal_number_ne}
use Rattle.claims.proofs.ReplyLaws.{hear_fits}
use Rattle.rule.specs.declared.node.Node.{Node}
use Rattle.rule.specs.Answer.{Taken}
use Rattle.rule.specs.Node.{node_in_order, node_keys, pending_of}
use Rattle.rule.specs.Table.{table_with}
use Rattle.rule.specs.Call.{take_questions, taken}
use Rattle.rule.proofs.NodeLaws.{Ordered, node_in_order_ordered, ordered_node_in_order, node_keys_node_of}
use Rattle.rule.proofs.TableLaws.{length_table_with}
use Rattle.rule.proofs.CallLaws.{take_questions_6, take_questions_yes, taken_done, taken_refused, ordered_taken}
use Rattle.nodes.specs.Lent.{take_in}
use Rattle.nodes.proofs.LentLaws.{take_in_taken, ordered_take_in}
use Rattle.wire.specs.Frame.{all_pass}
use Rattle.wire.specs.Image.{Shaped}
use Rattle.host.specs.Taking.{questions6, taken_in_turn, taken_until}
use Rattle.host.proofs.Fitting.{shaped_node_of}

-- ---- one turn: r is what taking the claim at place i gave

pub record Turn (n : Node) (cs : List Claim) (i : ℕ) (r : Taken) : Type 0 where
  pub below : i < length cs
  pub shaped : Shaped n
  pub ordered : node_in_order n ≡ true
  pub next : r ≡ take_in n (get_or cs i no_claim)

pub turn_of : {n : Node} {cs : List Claim} {i : ℕ} {r : Taken} → Shaped n → node_in_order n ≡ true → i < length cs → r ≡ take_in n (get_or cs i no_claim)
    → Turn n cs i r
turn_of shaped ordered below next = record { below = below; shaped = shaped; ordered = ordered; next = next }

module _ {n : Node} {cs : List Claim} {i : ℕ} {r : Taken} (t : Turn n cs i r) where
  -- the claim
  abbrev c : Claim
  c = get_or cs i no_claim

  o : Ordered n
  o = node_in_order_ordered n t.ordered

  turn_taken : r ≡ taken n c
  turn_taken = t.next ∙ take_in_taken n t.shaped.pending o c t.shaped.store

  pub turn_refused : (r.number ≡ 0 → ⊥) → taken_until n (drop i cs) ≡ r
  turn_refused f = rw (drop-cons cs i no_claim t.below, ← turn_taken, ne_eqb r.number 0 f)

  pub turn_done : r.number ≡ 0 → taken_until n (drop i cs) ≡ taken_until r.node (drop (i + 1) cs)
  turn_done e = rw (add-one, drop-cons cs i no_claim t.below, ← turn_taken, eq-eqb r.number 0 e)

  pub turn_ordered : node_in_order r.node ≡ true
  turn_ordered =
      subst (λ (x : Taken). node_in_order x.node ≡ true) (sym t.next)
      (ordered_node_in_order (take_in n c).node (ordered_take_in n t.shaped.pending o c t.shaped.store))

  -- it keeps its places
  pub turn_shaped : Shaped r.node
  turn_shaped =
      ⊎_elim {C = Shaped r.node}
      (λ (e : first_no (take_questions n c) ≡ 0).
      subst (λ (x : Taken). Shaped x.node) (sym (turn_taken ∙ taken_done n c e))
      (shaped_node_of (hear c (node_keys n)) (table_with c (pending_of n)) (hear_fits c (node_keys n) (take_questions_yes n c e).room) (length_table_with c (pending_of n))))
      (λ (f : first_no (take_questions n c) ≡ 0 → ⊥). subst (λ (x : Taken). Shaped x.node) (sym (turn_taken ∙ taken_refused n c f)) t.shaped)
      (eq_or_ne (first_no (take_questions n c)) 0)

-- none is left
pub taken_until_end : (r : Taken) (cs : List Claim) (i : ℕ) → length cs ≤ i → r.number ≡ 0 → taken_until r.node (drop i cs) ≡ r
taken_until_end r cs i h e = rw (drop_of_length-le cs h) (λ j. record { number = sym e j; node = r.node })

-- ---- the goals of `take_in_turn`, as the check finds them: where a claim is refused nothing is taken behind it, and where it is taken the rest is

module _ (n : Node) (cs : List Claim) (i : ℕ) (shaped : Shaped n) (ordered : node_in_order n ≡ true) (below : i < length cs) where
  -- what the claim at place i gives
  abbrev given : Taken
  given = take_in n (get_or cs i no_claim)

  turn : Turn n cs i given
  turn = turn_of shaped ordered below refl

  pub until_refused : given.number ≢ 0 → taken_until n (drop i cs) ≡ given
  until_refused some = turn_refused turn some

  pub until_done : given.number ≡ 0 → taken_until n (drop i cs) ≡ taken_until given.node (drop (i + 1) cs)
  until_done none = turn_done turn none

  pub given_ordered : node_in_order given.node ≡ true
  given_ordered = turn_ordered turn

  -- the equation is for `grind`, which looks for its left side
  pub given_shaped : (given ≡ given) × Shaped given.node
  given_shaped = (refl, turn_shaped turn)

pub ruleset turns = (until_refused, until_done, given_ordered, given_shaped, taken_until_end, refusal_number_ne)

-- ---- all of them

-- a claim that passes 2 to 5 and 16
module _ (n : Node) (c : Claim) (o : Ordered n) (pass : judged c ≡ 0) where
  module _ (yes : (question6 (ends c) (node_keys n)).yes ≡ true) where
    asked : first_no (take_questions n c) ≡ 0
    asked = take_questions_6 n c o pass ∙ first_no_yes (question6 (ends c) (node_keys n)) [] yes

    pub taken_number : (taken n c).number ≡ 0
    taken_number = ap (λ (t : Taken). t.number) (taken_done n c asked)

    pub taken_keys : node_keys (taken n c).node ≡ hear c (node_keys n)
    taken_keys = ap (λ (t : Taken). node_keys t.node) (taken_done n c asked) ∙ node_keys_node_of (hear c (node_keys n)) (table_with c (pending_of n))

    pub taken_ordered : Ordered (taken n c).node
    taken_ordered = subst (λ (t : Taken). Ordered t.node) (sym (taken_done n c asked)) (ordered_taken n c (take_questions_yes n c asked))

  pub taken_6 : (question6 (ends c) (node_keys n)).yes ≡ false → (taken n c).number ≡ 6
  taken_6 f =
      let e : first_no (take_questions n c) ≡ 6 = take_questions_6 n c o pass ∙ first_no_no (question6 (ends c) (node_keys n)) [] f in
      ap (λ (t : Taken). t.number) (taken_refused n c (λ (z : first_no (take_questions n c) ≡ 0). omega arith)) ∙ e

pub questions6_numbered : (cs : List Claim) (l : List ℕ) → Numbered (questions6 cs l)
questions6_numbered [] l = tt
questions6_numbered (c ∷ cs) l = (omega arith, questions6_numbered cs (hear c l))

module _ (n : Node) (c : Claim) (cs : List Claim) (p : all_pass (c ∷ cs) ≡ true) where
  first_passes : judged c ≡ 0
  first_passes = eqb-true (judged c) 0 (and_left (eqb (judged c) 0) (all_pass cs) p)

  rest_pass : all_pass cs ≡ true
  rest_pass = and_right (eqb (judged c) 0) (all_pass cs) p

pub taken_until_number : (n : Node) (cs : List Claim) → Ordered n → all_pass cs ≡ true → (taken_until n cs).number ≡ first_no (questions6 cs (node_keys n))
taken_until_number n [] o p = refl
taken_until_number n (c ∷ cs) o p = go (question6 (ends c) (node_keys n)).yes refl (λ m. taken_until_number (taken n c).node cs m (rest_pass n c cs p))
  where
    good : judged c ≡ 0
    good = first_passes n c cs p

    go : (t : Bool) → (question6 (ends c) (node_keys n)).yes ≡ t
        → (Ordered (taken n c).node → (taken_until (taken n c).node cs).number ≡ first_no (questions6 cs (node_keys (taken n c).node)))
        → (taken_until n (c ∷ cs)).number ≡ first_no (questions6 (c ∷ cs) (node_keys n))
    go true e rest =
        rw (e, eq-eqb (taken n c).number 0 (taken_number n c o good e), ← taken_keys n c o good e) (rest (taken_ordered n c o good e))
    go false e rest = let z = taken_6 n c o good e in rw (e, ne_eqb (taken n c).number 0 (λ (y : (taken n c).number ≡ 0). omega arith)) z

pub taken_until_node : (n : Node) (cs : List Claim) → (taken_until n cs).number ≡ 0 → (taken_until n cs).node ≡ taken_in_turn n cs
taken_until_node n [] h = refl
taken_until_node n (c ∷ cs) h = go (eqb (taken n c).number 0) refl h (taken_until_node (taken n c).node cs)
  where
    go : (t : Bool) → eqb (taken n c).number 0 ≡ t → (cond t (taken_until (taken n c).node cs) (taken n c)).number ≡ 0
        → ((taken_until (taken n c).node cs).number ≡ 0 → (taken_until (taken n c).node cs).node ≡ taken_in_turn (taken n c).node cs)
        → (cond t (taken_until (taken n c).node cs) (taken n c)).node ≡ taken_in_turn n (c ∷ cs)
    go true e z rest = rest z
    go false e z rest = absurd (eqb-false (taken n c).number 0 e z)

pub ordered_taken_in_turn : (n : Node) (cs : List Claim) → Ordered n → all_pass cs ≡ true → first_no (questions6 cs (node_keys n)) ≡ 0 → Ordered (taken_in_turn n cs)
ordered_taken_in_turn n [] o p h = o
ordered_taken_in_turn n (c ∷ cs) o p h = go (question6 (ends c) (node_keys n)).yes refl h (λ m. ordered_taken_in_turn (taken n c).node cs m (rest_pass n c cs p))
  where
    good : judged c ≡ 0
    good = first_passes n c cs p

    go : (t : Bool) → (question6 (ends c) (node_keys n)).yes ≡ t → cond t (first_no (questions6 cs (hear c (node_keys n)))) 6 ≡ 0
        → (Ordered (taken n c).node → first_no (questions6 cs (node_keys (taken n c).node)) ≡ 0 → Ordered (taken_in_turn (taken n c).node cs))
        → Ordered (taken_in_turn n (c ∷ cs))
    go true e z rest = rest (taken_ordered n c o good e) (rw (taken_keys n c o good e) z)
    go false e z rest = absurd (omega arith)
