-- Taking a claim as the code does it (src/taking.rt): one law for each way that the code goes. What it means where the node is in order is in LentLaws;
-- the loop that moves claims up is that of keys (`keys`, proofs/PuttingLaws). Assumes nothing.
use mathlib.Core.Path.{◌≡◌, refl, sym, ◌∙◌, ap}
use mathlib.Core.Bool.{Bool, true, false, cond, not}
use mathlib.Core.Logic.{⊎_elim}
use mathlib.Core.List.{List, [], ◌∷◌, ◌++◌, append_assoc}
use Prim.Native.Nat.{ℕ, zero, suc, ◌+◌, ◌-◌, ◌/◌, ◌≤◌, ◌<◌, min}
use native.Mathlib.Omega.{arith}
use borrow.Author.Tests.{lt-ltb, le-ltb, eqb-false, eq-eqb, ne_eqb}
use lib.Dec.{eqb}
use lib.ListN.{length, take, drop, get_or, length-append, length-take, length-drop, take-append-drop}
use lib.Seq.{get_or-take, length-take-le, take-take, take_all, take-nil, take_at}
use Rattle.keys.proofs.SumLaws.{renewed_grown}
use Rattle.keys.specs.declared.lent.Added.{Added}
use Rattle.keys.specs.Lent.{inserted_at, store_with, renewed_from, store_by}
use Rattle.keys.specs.declared.store.Store.{Store}
use Rattle.std.proofs.Common.{Result, Ok, Err}
use Rattle.keys.specs.Store.{limit, Sized, store_of}
use Rattle.keys.specs.Place.{put_at}
use Rattle.keys.proofs.Tests.{lt_or_le, eq_or_ne}
use Rattle.keys.proofs.LentLaws.{store_with_store_of}
use Rattle.claims.specs.declared.claim.Claim.{Claim}
use Rattle.claims.specs.Claim.{no_claim}
use Rattle.claims.specs.Question.{first_no}
use Rattle.claims.specs.Reply.{hear}
use Rattle.claims.specs.declared.refusal.Refusal.{Refusal}
use Rattle.claims.specs.declared.refusal.Refusal.TheVariants.{OutOfOrder}
use Rattle.claims.specs.Refusal.{refusal_number, value_told}
use Rattle.claims.proofs.RefusalLaws.{refusal_number_ne}
use Rattle.claims.specs.Lent.{Hearing, hearing_with, hear_in}
use Rattle.claims.proofs.ReplyLaws.{hear_fits, length_hear_ge}
use Rattle.claims.proofs.LentLaws.{hear_in_kept}
use Rattle.rule.specs.Table.{table_limit, before}
use Rattle.rule.specs.Call.{take_questions, taken}
use Rattle.rule.specs.declared.node.Node.{Node}
use Rattle.rule.specs.declared.node.Table.{Table}
use Rattle.rule.specs.Answer.{Taken, taken_by}
use Rattle.rule.specs.Node.{node_keys, node_of, node_in_order}
use Rattle.rule.proofs.NodeLaws.{Ordered, node_in_order_ordered}
use Rattle.rule.proofs.CallLaws.{take_questions_yes, taken_done, taken_refused, length_node_keys}
use Rattle.nodes.specs.Lent.{halved_to, place_among, is_at, placed_at, table_in, node_with, placed_in, Enlisted, taken_with, take_in}
use Rattle.nodes.proofs.LentLaws.{own_store, take_in_taken}

-- ---- `place_among`: halving

module _ (t : List Claim) (c : Claim) where
  pub halved_to_none : (n base size : ℕ) → size ≡ 0 → halved_to n t c base size ≡ base
  halved_to_none zero base size e = refl
  halved_to_none (suc n) base size e = rw (eq-eqb size 0 e)

  -- fuel as large as the size is enough
  pub halved_to_fuel : (m n base size : ℕ) → size ≤ m → size ≤ n → halved_to m t c base size ≡ halved_to n t c base size
  halved_to_fuel zero n base size h g = let e : size ≡ 0 = omega arith in sym (halved_to_none n base size e)
  halved_to_fuel (suc m) zero base size h g = let e : size ≡ 0 = omega arith in halved_to_none (suc m) base size e
  halved_to_fuel (suc m) (suc n) base size h g =
      go (eqb size 0) refl (before (get_or t (base + size / 2) no_claim) c) (halved_to_fuel m n)
    where
      go : (u : Bool) → eqb size 0 ≡ u → (v : Bool) → ((b s : ℕ) → s ≤ m → s ≤ n → halved_to m t c b s ≡ halved_to n t c b s)
          → cond u base (cond v (halved_to m t c (base + size / 2 + 1) (size - (size / 2 + 1))) (halved_to m t c base (size / 2)))
          ≡ cond u base (cond v (halved_to n t c (base + size / 2 + 1) (size - (size / 2 + 1))) (halved_to n t c base (size / 2)))
      go true e v again = refl
      go false e true again = again (base + size / 2 + 1) (size - (size / 2 + 1)) (omega arith) (omega arith)
      go false e false again = let f = eqb-false size 0 e in again base (size / 2) (omega arith) (omega arith)

  -- a turn of the loop
  pub halved_to_up : (base size : ℕ) → 0 < size → before (get_or t (base + size / 2) no_claim) c ≡ true
      → halved_to size t c base size ≡ halved_to (size - (size / 2 + 1)) t c (base + size / 2 + 1) (size - (size / 2 + 1))
  halved_to_up base zero h e = absurd (omega arith)
  halved_to_up base (suc n) h e =
      rw (ne_eqb (suc n) 0 (λ (z : suc n ≡ 0). omega arith), e)
      (halved_to_fuel n (suc n - (suc n / 2 + 1)) (base + suc n / 2 + 1) (suc n - (suc n / 2 + 1)) (omega arith) (omega arith))

  pub halved_to_down : (base size : ℕ) → 0 < size → before (get_or t (base + size / 2) no_claim) c ≡ false
      → halved_to size t c base size ≡ halved_to (size / 2) t c base (size / 2)
  halved_to_down base zero h e = absurd (omega arith)
  halved_to_down base (suc n) h e =
      rw (ne_eqb (suc n) 0 (λ (z : suc n ≡ 0). omega arith), e) (halved_to_fuel n (suc n / 2) base (suc n / 2) (omega arith) (omega arith))

pub place_among_start : (t : List Claim) (c : Claim) → place_among c t ≡ halved_to (length t) t c 0 (length t)
unfolding place_among
place_among_start t c = refl

-- ---- `put`: the claims with one more

-- what stands from p on within the first n
pub drop_take : {A : Type 0} (p n : ℕ) (l : List A) → drop p (take n l) ≡ take (n - p) (drop p l)
drop_take zero n l = let e : n - 0 ≡ n = omega arith in rw e
drop_take (suc p) zero l = let e : 0 - suc p ≡ 0 = omega arith in rw e
drop_take (suc p) (suc n) [] = sym (take-nil (suc n - suc p))
drop_take (suc p) (suc n) (x ∷ xs) = let e : suc n - suc p ≡ n - p = omega arith in rw e (drop_take p n xs)

-- what was moved and set is the run with the claim placed among the first `count`, and what stood past them
pub inserted_at_placed_at : (table : List Claim) (count at : ℕ) (c : Claim) → at ≤ count → count < length table
    → inserted_at at count c table ≡ put_at table 0 (placed_at at c (take count table))
unfolding inserted_at put_at
inserted_at_placed_at table count at c h g =
    let long : length (placed_at at c (take count table)) ≡ count + 1 = simp (length-append, length-take, length-drop) (omega arith) in
    rw (long, take-take at count table h, drop_take at count table)
    (sym (append_assoc (take at table) (c ∷ take (count - at) (drop at table)) (drop (count + 1) table)))

-- ---- `enlist`

-- one claim more, cut off behind the place
take_placed_at : (m p : ℕ) (c : Claim) (t : List Claim) → p ≤ m → take (suc m) (placed_at p c t) ≡ placed_at p c (take m t)
take_placed_at m zero c t h = refl
take_placed_at zero (suc p) c t h = absurd (omega arith)
take_placed_at (suc m) (suc p) c [] h = refl
take_placed_at (suc m) (suc p) c (x ∷ xs) h = ap (λ (l : List Claim). x ∷ l) (take_placed_at m p c xs (omega arith))

-- the lesser count decides
pub take_least : {A : Type 0} (m n : ℕ) (l : List A) → take m (take n l) ≡ take (min n m) l
take_least m n l = ⊎_elim {C = take m (take n l) ≡ take (min n m) l}
    (λ (h : m < n). let e : min n m ≡ m = omega arith in rw e (take-take m n l (omega arith)))
    (λ (h : n ≤ m). let e : min n m ≡ n = omega arith in rw e (take_all m (take n l) (omega (arith, length-take n l))))
    (lt_or_le m n)

module _ (table : List Claim) (count : ℕ) (c : Claim) (whole : length table ≡ table_limit) {known at : ℕ} (cut : known ≡ min count table_limit)
    (place : at ≡ place_among c (take known table)) (inside : at ≤ length (take known table)) where
  -- the claims that are pending
  abbrev t : List Claim
  t = take count table

  below : at ≤ known
  below = omega (arith, inside, length-take known table)

  same : take known table ≡ t
  same =
      ap (λ (j : ℕ). take j table) cut
      ∙ (sym (take_least table_limit count table)
      ∙ take_all table_limit t (omega (arith, length-take count table)))

  long : length t ≡ known
  long = ap length (sym same) ∙ length-take-le known table (omega arith)

  listed : table_in c t ≡ placed_in at c t
  unfolding table_in
  listed = ap (λ (p : ℕ). placed_in p c t) (sym (place ∙ ap (place_among c) same))

  -- nothing is put in
  enlisted_same : placed_in at c t ≡ t → Enlisted table (table_in c t) table known
  unfolding put_at
  enlisted_same e =
      let whole_again : t ++ drop known table ≡ table = ap (λ (l : List Claim). l ++ drop known table) (sym same) ∙ take-append-drop known table in
      rw (listed, e) (record { places = rw long (sym whole_again); many = sym long })

  -- a 65th claim that comes last
  pub enlisted_last : at ≡ table_limit → Enlisted table (table_in c t) table known
  enlisted_last e =
      let past : is_at at c t ≡ false = rw (le-ltb at (length t) (omega (arith, below, long))) in
      let n : length (take at t) ≡ table_limit = length-take-le at t (omega (arith, below, long)) ∙ e in
      enlisted_same (rw (past, take_at (take at t) (c ∷ drop at t) table_limit n) (take_all at t (omega (arith, below, long))))

  -- what the claim at the place was found to be: `told` says whether it does not come after
  module _ (held : at < known) {told : Bool} (compared : told ≡ not (before c (get_or table at no_claim))) where
    is_at_told : is_at at c t ≡ told
    is_at_told =
        let there : get_or t at no_claim ≡ get_or table at no_claim =
        ap (λ (l : List Claim). get_or l at no_claim) (sym same) ∙ get_or-take known table at no_claim held in
        rw (lt-ltb at (length t) (omega (arith, below, long)), there, ← compared)

    pub enlisted_held : told ≡ true → Enlisted table (table_in c t) table known
    enlisted_held e = enlisted_same (rw (is_at_told, e))

    pub other_held : told ≡ false → is_at at c t ≡ false
    other_held e = is_at_told ∙ e

  pub other_past : known ≤ at → is_at at c t ≡ false
  other_past h = rw (le-ltb at (length t) (omega (arith, below, long)))

  pub enlisted_put : (at ≡ table_limit → ⊥) → is_at at c t ≡ false → {kept : ℕ} → kept ≡ min known (table_limit - 1) → {moved : List Claim}
      → moved ≡ inserted_at at kept c table → Enlisted table (table_in c t) moved (kept + 1)
  enlisted_put h other {kept} k {moved} m =
      let few : take (table_limit - 1) t ≡ take kept table =
      ap (take (table_limit - 1)) (sym same) ∙ (take_least (table_limit - 1) known table ∙ ap (λ (j : ℕ). take j table) (sym k)) in
      let cut_off : placed_in at c t ≡ placed_at at c (take kept table) =
      rw other (take_placed_at (table_limit - 1) at c t (omega (arith, below)) ∙ ap (placed_at at c) few) in
      let many : length (placed_at at c (take kept table)) ≡ kept + 1 = simp (length-append, length-take, length-drop) (omega (arith, below)) in
      rw (listed, cut_off) (record { places = m ∙ inserted_at_placed_at table kept at c (omega (arith, below)) (omega (arith, below)); many = sym many })

-- ---- `take_in`, by what hearing the claim gave

module _ (keys : List ℕ) (held : ℕ) (pending : Table) (c : Claim) (after : List ℕ) where
  pub take_refused : (x : Refusal) → hearing_with after held (Err x) ≡ hear_in (store_with keys held) c
      → taken_with after held pending (Err x) ≡ take_in (node_with keys held pending) c
  unfolding take_in
  take_refused x heard =
      let number_is : refusal_number x ≡ (hear_in (store_with keys held) c).number = ap (λ (h : Hearing). h.number) heard in
      let no : (hear_in (store_with keys held) c).number ≡ 0 → ⊥ = λ (e : (hear_in (store_with keys held) c).number ≡ 0). refusal_number_ne x (number_is ∙ e) in
      let same : (hear_in (store_with keys held) c).store ≡ store_with keys held = hear_in_kept (store_with keys held) c no in
      let kept : after ≡ keys = ap (λ (h : Hearing). h.store.keys) heard ∙ ap (λ (s : Store). s.keys) same in
      rw (← number_is, ne_eqb (refusal_number x) 0 (refusal_number_ne x), kept)

  pub take_done : {h : Added} → hearing_with after held (Ok h) ≡ hear_in (store_with keys held) c
      → {new : Table} → Enlisted pending.claims (table_in c (take pending.count pending.claims)) new.claims new.count
      → taken_with after held new (Ok h.count) ≡ take_in (node_with keys held pending) c
  unfolding take_in
  take_done {h} heard {new} listed =
      rw (← heard, ← listed.places, ← listed.many)

-- ---- `take`, by what `ordered` said

module _ (n : Node) (c : Claim) (ordered : Bool) (tested : ordered ≡ node_in_order n) where
  pub taken_1 : ordered ≡ false → taken_by {A = Unit {0}} n (Err OutOfOrder) ≡ taken n c
  unfolding taken
  taken_1 e = rw (← tested, e)

  module _ (yes : ordered ≡ true) (whole : length n.pending.claims ≡ table_limit) (sized : Sized n.store) where
    o : Ordered n
    o = node_in_order_ordered n (sym tested ∙ yes)

    -- its keys
    abbrev l : List ℕ
    l = node_keys n

    own : n.store ≡ store_of l
    own = own_store n whole o c sized

    short : length l ≤ limit
    short = length_node_keys n o

    -- its parts without the sums are all of it
    parts_are : node_with n.store.keys n.store.count n.pending ≡ n
    parts_are =
        let with_is : store_with n.store.keys n.store.count ≡ n.store =
        ap (λ (s : Store). store_with s.keys s.count) own ∙ (store_with_store_of l short ∙ sym own) in
        λ i. record { store = with_is i; pending = n.pending }

    module _ {after : List ℕ} {pending : Table} (r : Result ℕ Refusal)
        (took : taken_with after n.store.count pending r ≡ take_in (node_with n.store.keys n.store.count n.pending) c) where
      taken_is : taken_with after n.store.count pending r ≡ taken n c
      taken_is = took ∙ (ap (λ (x : Node). take_in x c) parts_are ∙ take_in_taken n whole o c sized)

      abbrev held : ℕ
      held = value_told n.store.count r

      -- the sums worked out anew are those of the keys then
      summed_anew : (m : List ℕ) → length l ≤ length m → length m ≤ limit → (taken n c).node.store ≡ store_of m
          → renewed_from 0 (store_by after n.store.sums held) ≡ (taken n c).node.store
      summed_anew m h g e =
          let is : store_with after held ≡ store_of m = ap (λ (t : Taken). t.node.store) taken_is ∙ e in
          (λ i. renewed_from 0 (store_by (is i).keys (own i).sums (is i).count)) ∙ (renewed_grown l m h g ∙ sym e)

      store_then : renewed_from 0 (store_by after n.store.sums held) ≡ (taken n c).node.store
      unfolding node_of
      store_then = ⊎_elim {C = renewed_from 0 (store_by after n.store.sums held) ≡ (taken n c).node.store}
          (λ (e : first_no (take_questions n c) ≡ 0).
          summed_anew (hear c l) (length_hear_ge c l) (hear_fits c l (take_questions_yes n c e).room)
          (ap (λ (t : Taken). t.node.store) (taken_done n c e)))
          (λ (f : first_no (take_questions n c) ≡ 0 → ⊥).
          summed_anew l (omega arith) short (ap (λ (t : Taken). t.node.store) (taken_refused n c f) ∙ own))
          (eq_or_ne (first_no (take_questions n c)) 0)

    -- taken: the sums are worked out anew
    pub taken_in : {after : List ℕ} {pending : Table} {k : ℕ}
        → taken_with after n.store.count pending (Ok k) ≡ take_in (node_with n.store.keys n.store.count n.pending) c
        → {s : Store} → s ≡ renewed_from 0 (store_by after n.store.sums k)
        → taken_by {A = Unit {0}} (record { store = s; pending = pending }) (Ok tt) ≡ taken n c
    taken_in {k = k} took {s} anew =
        let all = taken_is (Ok k) took in
        let store_is : s ≡ (taken n c).node.store = anew ∙ store_then (Ok k) took in
        λ i. record { number = (all i).number; node = record { store = store_is i; pending = (all i).node.pending } }

    -- refused: the node is what it was
    pub taken_not : {after : List ℕ} {pending : Table} (x : Refusal)
        → taken_with after n.store.count pending (Err x) ≡ take_in (node_with n.store.keys n.store.count n.pending) c
        → taken_by {A = Unit {0}} (record { store = store_by after n.store.sums n.store.count; pending = pending }) (Err x) ≡ taken n c
    taken_not {after} {pending} x took =
        let all = taken_is (Err x) took in
        let no : first_no (take_questions n c) ≡ 0 → ⊥ =
        λ (e : first_no (take_questions n c) ≡ 0). refusal_number_ne x (ap (λ (t : Taken). t.number) (all ∙ taken_done n c e)) in
        let kept : node_with after n.store.count pending ≡ n = ap (λ (t : Taken). t.node) (all ∙ taken_refused n c no) in
        let node : record { store = store_by after n.store.sums n.store.count; pending = pending } ≡ n =
        λ i. record { store = record { keys = (kept i).store.keys; sums = n.store.sums; count = n.store.count }; pending = (kept i).pending } in
        (λ i. record { number = (all i).number; node = node i }) ∙ (λ i. record { number = (taken n c).number; node = (sym (taken_refused n c no) i).node })
