-- What joining two lent nodes means (specs/Joining). A refusal leaves the run as it was, whatever both hold. Where both are in order, it asks 8 of their keys, and
-- the node that it makes in a run of zeros is the joined node of `rule`. Assumes nothing.
use Prim.Native.Nat.{ℕ, ◌≤◌}
use native.Mathlib.Omega.{arith}
use mathlib.Core.Bool.{Bool, true, false, cond}
use mathlib.Core.List.{List, [], ◌∷◌}
use mathlib.Core.Path.{◌≡◌, refl, sym, ap, ap₂, ◌∙◌}
use borrow.Author.Tests.{leb-true, le-leb}
use lib.Dec.{ltb, leb}
use lib.ListN.{length}
use Rattle.keys.specs.Store.{limit, zeros, store_of}
use Rattle.keys.specs.Place.{put_at}
use Rattle.keys.specs.Lent.{store_with}
use Rattle.keys.proofs.PlaceLaws.{length_put_at, put_at_replicate}
use Rattle.keys.proofs.StoreLaws.{count_store_of, in_order_rising}
use Rattle.keys.proofs.LentLaws.{store_with_store_of}
use Rattle.claims.specs.declared.claim.Claim.{Claim}
use Rattle.claims.specs.Claim.{no_claim}
use Rattle.claims.specs.Question.{first_no}
use Rattle.rule.specs.declared.node.Node.{Node}
use Rattle.rule.specs.Answer.{Taken}
use Rattle.rule.specs.Table.{table_limit, joined_table}
use Rattle.rule.specs.Node.{blanks, table_by, node_keys, pending_of, node_of}
use Rattle.rule.specs.Round.{union}
use Rattle.rule.specs.Question.{question8}
use Rattle.rule.specs.Call.{joined_node}
use Rattle.rule.proofs.NodeLaws.{Ordered}
use Rattle.merging.specs.Merge.{merged, merged_in}
use Rattle.merging.proofs.MergeLaws.{merged_union, merged_claims}
use Rattle.nodes.specs.Lent.{node_with, taken_beside}
use Rattle.nodes.specs.Joining.{tables_in, rest_refused, rest_with, join_in}

-- some keys and some claims, laid out over zeros, are their node
laid_keys : (l : List ℕ) → put_at (zeros limit) 0 l ≡ (store_of l).keys
unfolding store_of zeros
laid_keys l = put_at_replicate l limit 0

laid_node : (l : List ℕ) (t : List Claim) → length l ≤ limit
    → node_with (put_at (zeros limit) 0 l) (length l) (table_by (put_at (blanks table_limit) 0 t) (length t)) ≡ node_of l t
unfolding node_of blanks
laid_node l t h =
    let count : length l ≡ (store_of l).count = sym (count_store_of l) in
    let store : store_with (put_at (zeros limit) 0 l) (length l) ≡ store_of l = ap₂ store_with (laid_keys l) count ∙ store_with_store_of l h in
    λ i. record { store = store i; pending = table_by (put_at_replicate t table_limit no_claim i) (length t) }

pub join_in_kept : (n m : Node) (into : List ℕ) → ((join_in n m into).number ≡ 0 → ⊥) → (join_in n m into).node.store.keys ≡ into
unfolding join_in merged_in
join_in_kept n m into f = go (leb (length l) limit) f
  where
    l : List ℕ
    l = merged ltb (node_keys n) (node_keys m)

    told : Bool → Taken
    told b = taken_beside (cond b (put_at into 0 l) into) (cond b (rest_with (length l) (tables_in (pending_of n) (pending_of m))) (rest_refused 8 n))

    go : (b : Bool) → ((told b).number ≡ 0 → ⊥) → (told b).node.store.keys ≡ into
    go true g = absurd (g refl)
    go false g = refl

-- two nodes in order
module _ (n m : Node) (into : List ℕ) (o : Ordered n) (p : Ordered m) where
  abbrev u : List ℕ
  u = union (node_keys n) (node_keys m)

  abbrev t : List Claim
  t = joined_table (pending_of n) (pending_of m)

  -- what the code returns, by the rule's definitions
  abbrev told : Bool → Taken
  told b = cond b (taken_beside (put_at into 0 u) (rest_with (length u) t)) (taken_beside into (rest_refused 8 n))

  join_in_by : join_in n m into ≡ told (leb (length u) limit)
  unfolding join_in merged_in tables_in
  join_in_by =
      rw (
        merged_union (node_keys n) (node_keys m) (in_order_rising n.store o.store) (in_order_rising m.store p.store),
        merged_claims (pending_of n) (pending_of m) o.table p.table,
      )
      (go (leb (length u) limit))
    where
      go : (b : Bool) → taken_beside (cond b (put_at into 0 u) into) (cond b (rest_with (length u) t) (rest_refused 8 n)) ≡ told b
      go true = refl
      go false = refl

  pub join_in_number : (join_in n m into).number ≡ first_no (question8 (node_keys n) (node_keys m) ∷ [])
  join_in_number = ap (λ (x : Taken). x.number) join_in_by ∙ go (leb (length u) limit)
    where
      go : (b : Bool) → (told b).number ≡ cond b 0 8
      go true = refl
      go false = refl

  -- refused or not, the run has all its places
  pub join_in_long : length into ≡ limit → length (join_in n m into).node.store.keys ≡ limit
  join_in_long whole = ap (λ (x : Taken). length x.node.store.keys) join_in_by ∙ go (leb (length u) limit) refl
    where
      go : (b : Bool) → leb (length u) limit ≡ b → length (told b).node.store.keys ≡ limit
      go true e = length_put_at into 0 u (omega (arith, leb-true (length u) limit e)) ∙ whole
      go false e = whole

  pub join_in_node : into ≡ zeros limit → length u ≤ limit → (join_in n m into).node ≡ joined_node n m
  join_in_node empty h = ap (λ (x : Taken). x.node) join_in_by ∙ rw (le-leb (length u) limit h, empty) (laid_node u t h)
