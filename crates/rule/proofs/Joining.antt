-- Two tables in one and two nodes in one: `insert_claims` and `joined_table` of Table, `joined_node` and `joined` of Call (document 02, slip 9). In order: members;
-- the order; given the other way round; a table joined with itself; a joining carried out and refused; the node that comes out. Assumes nothing.
use Prim.Native.Nat.{ℕ, ◌≤◌}
use mathlib.Core.Bool.{Bool, true, false, cond}
use mathlib.Core.List.Memᴰ
use mathlib.Core.List.{List, [], ◌∷◌, Memᴰ}
use mathlib.Core.Logic.{◌⊎◌, inl, inr, ⊎_elim}
use mathlib.Core.Path.{◌≡◌, refl, sym, ap, ap₂, ◌∙◌, subst}
use native.Mathlib.Omega.{arith}
use borrow.Author.Tests.{leb-true}
use lib.ListN.{length, take, length-take}
use lib.Seq.{take_all}
use Rattle.keys.specs.Store.{limit, Sized}
use Rattle.keys.proofs.Rising.{take_mem}
use Rattle.keys.proofs.StoreLaws.{in_order_rising}
use Rattle.claims.specs.declared.claim.Claim.{Claim}
use Rattle.claims.specs.Question.{first_no}
use Rattle.claims.specs.Reply.{same}
use Rattle.claims.proofs.ClaimLaws.{same_claim}
use Rattle.claims.proofs.QuestionLaws.{first_no_zero, settle_done, settle_refused}
use Rattle.rule.specs.declared.node.Node.{Node}
use Rattle.rule.specs.Table.{table_limit, before, climbs, insert_claim, insert_claims, joined_table}
use Rattle.rule.specs.Node.{node_keys, pending_of, node_of}
use Rattle.rule.specs.Round.{union}
use Rattle.rule.specs.Question.{node_question1, question8, question15}
use Rattle.rule.specs.Call.{joined_node, join_questions, joined}
use Rattle.rule.proofs.TableLaws.{insert_claim_mem, climbs_insert_claim, climbs_take}
use Rattle.rule.proofs.Sorted.{Among, sorted_ext, strict_claims, sorted_climbs}
use Rattle.rule.proofs.NodeLaws.{Fits, fits_sub, Ordered, node_in_order_ordered, ordered_node_of, node_of_same}
use Rattle.rule.proofs.Union.{union_rising, union_left, union_right, union_self, union_comm}
use Rattle.rule.proofs.CallLaws.{length_pending_of}

-- ---- members

-- a claim that is put in is there, ..
insert_claim_new : (c : Claim) (t : List Claim) → Memᴰ c (insert_claim c t)
insert_claim_new c [] = Memᴰ.head refl
insert_claim_new c (d ∷ ds) = go (before d c) (same d c) refl (insert_claim_new c ds)
  where
    go : (s t : Bool) → same d c ≡ t → Memᴰ c (insert_claim c ds) → Memᴰ c (cond s (d ∷ insert_claim c ds) (cond t (d ∷ ds) (c ∷ (d ∷ ds))))
    go true t e below = Memᴰ.tail below
    go false true e below = Memᴰ.head (sym (same_claim d c e))
    go false false e below = Memᴰ.head refl

-- .. and those that were there still are
insert_claim_old : (c : Claim) (t : List Claim) → Among t (insert_claim c t)
insert_claim_old c [] x m = absurd (Memᴰ.not-nil m)
insert_claim_old c (d ∷ ds) x m = go (before d c) (same d c) m (insert_claim_old c ds x)
  where
    go : (s t : Bool) → Memᴰ x (d ∷ ds) → (Memᴰ x ds → Memᴰ x (insert_claim c ds))
        → Memᴰ x (cond s (d ∷ insert_claim c ds) (cond t (d ∷ ds) (c ∷ (d ∷ ds))))
    go true t (Memᴰ.head e) below = Memᴰ.head e
    go true t (Memᴰ.tail n) below = Memᴰ.tail (below n)
    go false true n below = n
    go false false n below = Memᴰ.tail n

-- "those of both": of the second table ..
pub insert_claims_old : (s t : List Claim) → Among t (insert_claims s t)
insert_claims_old [] t x m = m
insert_claims_old (c ∷ cs) t x m = insert_claims_old cs (insert_claim c t) x (insert_claim_old c t x m)

-- .. of the first ..
pub insert_claims_new : (s t : List Claim) → Among s (insert_claims s t)
insert_claims_new [] t x m = absurd (Memᴰ.not-nil m)
insert_claims_new (c ∷ cs) t x (Memᴰ.head e) =
    insert_claims_old cs (insert_claim c t) x (subst (λ (y : Claim). Memᴰ y (insert_claim c t)) (sym e) (insert_claim_new c t))
insert_claims_new (c ∷ cs) t x (Memᴰ.tail m) = insert_claims_new cs (insert_claim c t) x m

-- .. and no others
pub insert_claims_mem : (s t : List Claim) (d : Claim) → Memᴰ d (insert_claims s t) → Memᴰ d s ⊎ Memᴰ d t
insert_claims_mem [] t d m = inr m
insert_claims_mem (c ∷ cs) t d m =
    ⊎_elim
    {C = Memᴰ d (c ∷ cs) ⊎ Memᴰ d t}
    (λ (n : Memᴰ d cs). inl (Memᴰ.tail n))
    (λ (n : Memᴰ d (insert_claim c t)).
    ⊎_elim {C = Memᴰ d (c ∷ cs) ⊎ Memᴰ d t} (λ (e : d ≡ c). inl (Memᴰ.head e)) (λ (o : Memᴰ d t). inr o) (insert_claim_mem c t d n))
    (insert_claims_mem cs (insert_claim c t) d m)

pub insert_claims_among : (s t u : List Claim) → Among s u → Among t u → Among (insert_claims s t) u
insert_claims_among s t u a b d m = ⊎_elim {C = Memᴰ d u} (a d) (b d) (insert_claims_mem s t d m)

-- ---- "in table order"

pub climbs_insert_claims : (s t : List Claim) → climbs t ≡ true → climbs (insert_claims s t) ≡ true
climbs_insert_claims [] t h = h
climbs_insert_claims (c ∷ cs) t h = climbs_insert_claims cs (insert_claim c t) (climbs_insert_claim c t h)

-- a climbing table with all claims of both, and no other, is the two in one
pub insert_claims_is : (s t u : List Claim) → climbs t ≡ true → climbs u ≡ true → Among s u → Among t u → Among u (insert_claims s t) → insert_claims s t ≡ u
insert_claims_is s t u h g a b c =
    sorted_ext strict_claims (insert_claims s t) u (sorted_climbs (insert_claims s t) (climbs_insert_claims s t h)) (sorted_climbs u g)
    (insert_claims_among s t u a b) c

-- ---- given the other way round, and with itself

insert_claims_comm : (s t : List Claim) → climbs s ≡ true → climbs t ≡ true → insert_claims s t ≡ insert_claims t s
insert_claims_comm s t h g =
    insert_claims_is s t (insert_claims t s) g (climbs_insert_claims t s h) (insert_claims_old t s) (insert_claims_new t s)
    (insert_claims_among t s (insert_claims s t) (insert_claims_old s t) (insert_claims_new s t))

pub joined_table_comm : (s t : List Claim) → climbs s ≡ true → climbs t ≡ true → joined_table s t ≡ joined_table t s
joined_table_comm s t h g = ap (take table_limit) (insert_claims_comm s t h g)

pub joined_table_self : (t : List Claim) → climbs t ≡ true → length t ≤ table_limit → joined_table t t ≡ t
joined_table_self t h n = ap (take table_limit) (insert_claims_is t t t h h (λ c m. m) (λ c m. m) (insert_claims_old t t)) ∙ take_all table_limit t n

-- ---- a joining

pub record JoinYes (n m : Node) : Type 0 where
  pub first : Ordered n
  pub second : Ordered m
  pub fits : length (union (node_keys n) (node_keys m)) ≤ limit

module _ (n m : Node) (room needed : ℕ) where
  pub join_questions_yes : first_no (join_questions n m room needed) ≡ 0 → JoinYes n m
  join_questions_yes h =
      let q8 = question8 (node_keys n) (node_keys m) in
      let q15 = question15 room needed in
      let a = first_no_zero (node_question1 n) (node_question1 m ∷ q8 ∷ q15 ∷ []) (omega arith) h in
      let b = first_no_zero (node_question1 m) (q8 ∷ q15 ∷ []) (omega arith) a.1 in
      let c = first_no_zero q8 (q15 ∷ []) (omega arith) b.1 in
      record {
        first = node_in_order_ordered n a.0;
        second = node_in_order_ordered m b.0;
        fits = leb-true (length (union (node_keys n) (node_keys m))) limit c.0;
      }

  pub joined_done : first_no (join_questions n m room needed) ≡ 0 → joined n m room needed ≡ record { number = 0; node = joined_node n m }
  unfolding joined
  joined_done h = settle_done _ _ (λ x. record { number = x; node = n }) h

  pub joined_refused : (first_no (join_questions n m room needed) ≡ 0 → ⊥)
      → joined n m room needed ≡ record { number = first_no (join_questions n m room needed); node = n }
  unfolding joined
  joined_refused f = settle_refused _ _ (λ x. record { number = x; node = n }) f

-- ---- the node that comes out

pub ordered_joined : (n m : Node) → JoinYes n m → Ordered (joined_node n m)
ordered_joined n m y =
    let l : List ℕ = node_keys n in
    let r : List ℕ = node_keys m in
    let s : List Claim = pending_of n in
    let t : List Claim = pending_of m in
    ordered_node_of (union l r) (joined_table s t) (union_rising l r (in_order_rising m.store y.second.store)) y.fits
    (rw (length-take table_limit (insert_claims s t)) (omega arith))
    (climbs_take table_limit (insert_claims s t) (climbs_insert_claims s t y.second.table))
    (λ c i.
    ⊎_elim
    {C = Fits c (union l r)}
    (λ (o : Memᴰ c s). fits_sub c l (union l r) (union_left l r) (y.first.fit c o))
    (λ (o : Memᴰ c t). fits_sub c r (union l r) (union_right l r) (y.second.fit c o))
    (insert_claims_mem s t c (take_mem table_limit (insert_claims s t) c i)))

pub joined_node_comm : (n m : Node) → Ordered n → Ordered m → joined_node n m ≡ joined_node m n
joined_node_comm n m o p =
    ap₂ node_of (union_comm (node_keys n) (node_keys m) (in_order_rising n.store o.store) (in_order_rising m.store p.store))
    (joined_table_comm (pending_of n) (pending_of m) o.table p.table)

pub joined_node_self : (n : Node) → Sized n.store → length n.pending.claims ≡ table_limit → Ordered n → joined_node n n ≡ n
joined_node_self n k p o =
    ap₂ node_of (union_self (node_keys n) (in_order_rising n.store o.store))
    (joined_table_self (pending_of n) o.table (length_pending_of n o))
    ∙ sym (node_of_same n k p o)
