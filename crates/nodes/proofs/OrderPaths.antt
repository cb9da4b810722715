-- Question 1 of a node as the code puts it (src/order.rt): one law for each way that the code goes. In order: two claims compared; the claim of
-- zeros, before which none comes; a claim that fits; the loops over the table, of which what is left computes the answer; the node.
-- Assumes nothing.
use mathlib.Core.Path.{◌≡◌, refl, sym, ◌∙◌, ap}
use mathlib.Core.Bool.{Bool, true, false, cond, not, ◌&&◌, false≢true, and-true, and-false, and_assoc, and_comm}
use mathlib.Core.List.{List, [], ◌∷◌}
use Prim.Native.Nat.{ℕ, ◌+◌, ◌≤◌, ◌<◌}
use native.Mathlib.Numerals.{add-one}
use native.Mathlib.Omega.{arith}
use borrow.Author.Tests.{le-ltb, le-leb, lt-leb, ne_eqb}
use lib.Dec.{ltb, eqb}
use lib.ListN.{length, take, drop, get_or, length-take}
use lib.Seq.{drop-cons, take-length}
use Rattle.std.proofs.Common.{Result, Ok, Err}
use Rattle.std.specs.List.{list_all}
use Rattle.std.specs.Result.{is_err}
use Rattle.keys.specs.declared.lent.Place.{Place}
use Rattle.keys.specs.Store.{limit, in_order, holds}
use Rattle.keys.specs.Lent.{ordered_in, summed_in, place_in}
use Rattle.keys.proofs.LentLaws.{summed_in_in_order, summed_in_ordered, ordered_in_all, place_in_ordered}
use Rattle.claims.specs.declared.claim.Claim.{Claim}
use Rattle.claims.specs.Claim.{no_claim}
use Rattle.claims.specs.Reply.{ends, same}
use Rattle.claims.specs.Question.{question16}
use Rattle.claims.specs.Call.{judged_formerly}
use Rattle.claims.specs.declared.refusal.Refusal.{Refusal}
use Rattle.claims.specs.Refusal.{refusal_number, number_told}
use Rattle.claims.proofs.RefusalLaws.{refusal_number_ne}
use Rattle.claims.proofs.ClaimLaws.{same_claim}
use Rattle.rule.specs.declared.node.Node.{Node}
use Rattle.rule.specs.Table.{table_limit, before, climbs_from, climbs}
use Rattle.rule.specs.Node.{node_keys, pending_of, holds_all, all_fit, all_tell, all_unused, saved_in_order, node_in_order}
use Rattle.rule.proofs.NodeLaws.{saved_in_order_node_of}
use Rattle.rule.proofs.TableLaws.{before_total}
use Rattle.nodes.specs.declared.order.Order.{Order}
use Rattle.nodes.specs.declared.order.Order.TheVariants.{Out, Given}
use Rattle.nodes.specs.Lent.{pending, order_of, front_in}

-- ---- the claim of zeros

-- no claim comes before it
pub before_no_claim : (c : Claim) → before c no_claim ≡ false
before_no_claim c = go (below c.cnt) (below c.lo) (below c.hi) (below c.sum)
  where
    below : (x : ℕ) → ltb x 0 ≡ false
    below x = le-ltb x 0 (omega arith)

    other : (t : Bool) {a b : Bool} → a ≡ false → b ≡ false → cond t a b ≡ false
    other true p q = p
    other false p q = q

    go : ltb c.cnt 0 ≡ false → ltb c.lo 0 ≡ false → ltb c.hi 0 ≡ false → ltb c.sum 0 ≡ false → before c no_claim ≡ false
    go p q r s = other (eqb c.cnt 0) (other (eqb c.lo 0) (other (eqb c.hi 0) (other (eqb c.sum 0) refl s) r) q) p

-- a claim that it does not come before is that one
pub before_no_claim_not : (c : Claim) → before no_claim c ≡ false → same c no_claim ≡ true
before_no_claim_not c h = go (same c no_claim) refl
  where
    go : (t : Bool) → same c no_claim ≡ t → t ≡ true
    go true e = refl
    go false e = absurd (false≢true (sym h ∙ before_total no_claim c (before_no_claim c) e))

-- it is refused with 3
judged_no_claim : judged_formerly no_claim ≡ 3
unfolding judged_formerly
judged_no_claim = refl

-- ---- a claim that fits: the store, seen as a run of keys

module _ (keys : List ℕ) (held : ℕ) (c : Claim) (yes : ordered_in keys held ≡ true) where
  -- a place says whether its key is held
  held_place : (k : ℕ) (p : Place) → p ≡ place_in keys held k → holds k (take held keys) ≡ p.held
  held_place k p found = sym (ap (λ (x : Place). x.held) (found ∙ place_in_ordered keys held k yes))

  module _ (r : Result (Unit {0}) Refusal) (asked : number_told r ≡ judged_formerly c) where
    pub fits_judged : is_err r ≡ true → false ≡ (eqb (judged_formerly c) 0 && holds_all (ends c) (take held keys))
    fits_judged f = go r asked f
      where
        go : (s : Result (Unit {0}) Refusal) → number_told s ≡ judged_formerly c → is_err s ≡ true
            → false ≡ (eqb (judged_formerly c) 0 && holds_all (ends c) (take held keys))
        go (Ok u) e g = absurd (false≢true g)
        go (Err x) e g = rw (← e, ne_eqb (refusal_number x) 0 (refusal_number_ne x))

    fits_held : is_err r ≡ false → (p q : Place) → p ≡ place_in keys held c.lo → q ≡ place_in keys held c.hi
        → (p.held && q.held) ≡ (eqb (judged_formerly c) 0 && holds_all (ends c) (take held keys))
    fits_held f p q lower upper = go r asked f
      where
        go : (s : Result (Unit {0}) Refusal) → number_told s ≡ judged_formerly c → is_err s ≡ false
            → (p.held && q.held) ≡ (eqb (judged_formerly c) 0 && holds_all (ends c) (take held keys))
        go (Ok u) e g = rw (← e, held_place c.lo p lower, held_place c.hi q upper, and-true)
        go (Err x) e g = absurd (false≢true (sym g))

    module _ (f : is_err r ≡ false) (p q : Place) (lower : p ≡ place_in keys held c.lo) (upper : q ≡ place_in keys held c.hi) where
      pub fits_hi : p.held ≡ true → q.held ≡ (eqb (judged_formerly c) 0 && holds_all (ends c) (take held keys))
      fits_hi e = ap (λ (b : Bool). b && q.held) (sym e) ∙ fits_held f p q lower upper

      pub fits_lo : p.held ≡ false → p.held ≡ (eqb (judged_formerly c) 0 && holds_all (ends c) (take held keys))
      fits_lo e = e ∙ (ap (λ (b : Bool). b && q.held) (sym e) ∙ fits_held f p q lower upper)

-- ---- an order, by what it is made of

not_same : (t u : Bool) → not t ≡ not u → t ≡ u
not_same true true e = refl
not_same true false e = absurd (false≢true e)
not_same false true e = absurd (false≢true (sym e))
not_same false false e = refl

given_both : (s t : Bool) → order_of s t ≡ Given → (s && t) ≡ true
given_both true true e = refl
given_both true false e = cc
given_both false t e = cc

given_not : (s t : Bool) → (order_of s t ≡ Given → ⊥) → (s && t) ≡ false
given_not true true f = absurd (f refl)
given_not true false f = refl
given_not false t f = refl

-- ---- the pending claims: they rise and fit if those from i on rise from above the last one and fit

-- the claims t rise strictly from above c, and each fits
abbrev pub pending_from : Claim → List Claim → List ℕ → Bool
pending_from c t l = climbs_from c t && all_fit t l

-- a claim that fits is not the claim of zeros, so it comes after that
pub pending_first : (t : List Claim) (l : List ℕ) → pending t l ≡ pending_from no_claim t l
pending_first [] l = refl
pending_first (c ∷ cs) l = go (before no_claim c) refl
  where
    go : (t : Bool) → before no_claim c ≡ t → (climbs_from c cs && all_fit (c ∷ cs) l) ≡ ((t && climbs_from c cs) && all_fit (c ∷ cs) l)
    go true e = refl
    go false e =
        let zeros : c ≡ no_claim = same_claim c no_claim (before_no_claim_not c e) in
        let refused : judged_formerly c ≡ 3 = ap judged_formerly zeros ∙ judged_no_claim in
        rw (refused, and-false)

-- Before claim i: all of them rise and fit exactly if those from i on rise from above `last` and fit, and all pass 16 exactly if none before i failed it and
-- those from i on pass it.
pub record Looking (t : List Claim) (l : List ℕ) (last : Claim) (i : ℕ) (given : Bool) : Type 0 where
  pub left : pending t l ≡ pending_from last (drop i t) l
  pub told : all_tell t ≡ (given && all_tell (drop i t))

-- what the code is to return
abbrev looked : List Claim → List ℕ → Order
looked t l = order_of (pending t l) (all_tell t)

pub looking_first : (t : List Claim) (l : List ℕ) → Looking t l no_claim 0 true
looking_first t l = record { left = pending_first t l; told = refl }

module _ (t : List Claim) (l : List ℕ) {last : Claim} {i : ℕ} {given : Bool} (k : Looking t l last i given) where
  module _ (inside : i < length t) where
    abbrev c : Claim
    c = get_or t i no_claim

    abbrev rest : List Claim
    rest = drop (i + 1) t

    next : drop i t ≡ c ∷ rest
    next = rw (add-one, drop-cons t i no_claim)

    -- by what the comparison said, and then the tests whether the claim fits and passes 16
    module _ (fell : Bool) (compared : fell ≡ not (before last c)) where
      rose_is : {u : Bool} → fell ≡ not u → before last c ≡ u
      rose_is {u} e = not_same (before last c) u (sym compared ∙ e)

      pub looking_fall : fell ≡ true → Out ≡ looked t l
      looking_fall e =
          let fallen : pending t l ≡ false = rw (k.left, next, rose_is {u = false} e) in
          rw fallen

      module _ (rises : fell ≡ false) (fits : Bool) (tested : fits ≡ (eqb (judged_formerly c) 0 && holds_all (ends c) l)) where
        -- what is left to ask: this claim, and those behind it
        left_is : pending t l ≡ (climbs_from c rest && (fits && all_fit rest l))
        left_is = rw (k.left, next, rose_is {u = true} rises, ← and_assoc (eqb (judged_formerly c) 0) (holds_all (ends c) l) (all_fit rest l), ← tested)

        pub looking_unfit : fits ≡ false → Out ≡ looked t l
        looking_unfit e =
            let no : pending t l ≡ false = left_is ∙ rw (e, and-false) in
            rw no

        pub looking_on : fits ≡ true → (tells : Bool) → tells ≡ (question16 c).yes → Looking t l c (i + 1) (given && tells)
        looking_on fit tells asked = record {
          left = left_is ∙ rw (fit);
          told = k.told ∙ (rw (next, ← asked) (sym (and_assoc given tells (all_tell rest))));
        }

-- ---- the unused places

pub unused_all : (t : List Claim) → list_all (λ (c : Claim). same c no_claim) t ≡ all_unused t
unused_all [] = refl
unused_all (d ∷ ds) = ap (λ (b : Bool). same d no_claim && b) (unused_all ds)

-- ---- the node, by what was found of its parts

and_swap : (a b c : Bool) → ((a && b) && c) ≡ ((a && c) && b)
and_swap true b c = and_comm b c
and_swap false b c = refl

module _ (n : Node) (long : length n.store.keys ≡ limit) (ordered : Bool) (tested : ordered ≡ summed_in n.store.keys n.store.sums n.store.count) where
  tested_store : in_order n.store ≡ ordered
  tested_store = sym (tested ∙ summed_in_in_order n.store long)

  -- the keys by themselves pass too
  pub ordered_keys : ordered ≡ true → ordered_in n.store.keys n.store.count ≡ true
  ordered_keys e = summed_in_ordered n.store.keys n.store.sums n.store.count (sym tested ∙ e)

  pub ordered_store : ordered ≡ false → false ≡ node_in_order n
  unfolding node_in_order saved_in_order
  ordered_store e = rw (tested_store, e)

  module _ (yes : ordered ≡ true) where
    pub ordered_count : table_limit < n.pending.count → false ≡ node_in_order n
    unfolding node_in_order saved_in_order
    ordered_count h = rw (tested_store, yes, lt-leb n.pending.count table_limit h)

    module _ (few : n.pending.count ≤ table_limit) (found : Order) (told : found ≡ looked (pending_of n) (node_keys n)) where
      -- what is left to ask: the pending claims, 16 with them, and the unused places
      left_to_ask : node_in_order n ≡ ((pending (pending_of n) (node_keys n) && all_tell (pending_of n)) && all_unused (drop n.pending.count n.pending.claims))
      unfolding node_in_order saved_in_order
      left_to_ask =
          let blank = all_unused (drop n.pending.count n.pending.claims) in
          rw (
            tested_store,
            yes,
            le-leb n.pending.count table_limit few,
            ← and_assoc (climbs (pending_of n)) (all_fit (pending_of n) (node_keys n)) blank,
          )
          (and_swap (pending (pending_of n) (node_keys n)) blank (all_tell (pending_of n)))

      -- the claims are as those that are given, or not
      pub ordered_given : found ≡ Given → (blank : Bool) → blank ≡ all_unused (drop n.pending.count n.pending.claims) → blank ≡ node_in_order n
      ordered_given e blank f = f ∙ sym (left_to_ask ∙ rw (given_both (pending (pending_of n) (node_keys n)) (all_tell (pending_of n)) (sym told ∙ e)))

      pub ordered_not : (found ≡ Given → ⊥) → false ≡ node_in_order n
      ordered_not f = sym (left_to_ask ∙ rw (given_not (pending (pending_of n) (node_keys n)) (all_tell (pending_of n)) (λ e. f (told ∙ e))))

-- ---- the node of some keys and claims, as one in an image

module _ (keys : List ℕ) (table : List Claim) (count : ℕ) where
  -- what the code is to return
  abbrev fronted : Order
  fronted = order_of (front_in keys table count) (all_tell (take count table))

  module _ (few : count ≤ table_limit) (ordered : Bool) (tested : ordered ≡ ordered_in keys (length keys)) where
    -- what is left to ask: the keys and the claims
    front_is : front_in keys table count ≡ (ordered && pending (take count table) keys)
    front_is =
        let short : length (take count table) ≤ table_limit = rw (length-take count table) (omega arith) in
        rw (
          le-leb count table_limit few,
          saved_in_order_node_of keys (take count table),
          ← ordered_in_all keys,
          ← tested,
          le-leb (length (take count table)) table_limit short,
        )

    pub front_store : ordered ≡ false → Out ≡ fronted
    front_store e = rw (front_is, e)

    pub front_pending : ordered ≡ true → (r : Order)
        → r ≡ order_of (pending (take count table) (take (length keys) keys)) (all_tell (take count table)) → r ≡ fronted
    front_pending e r is = is ∙ rw (take-length keys, front_is, e)
