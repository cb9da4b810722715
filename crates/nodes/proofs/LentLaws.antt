-- What the calls of specs/Lent mean, by rule's Table, Node and Call. In order: what an image holds, admitted; how many claims of a table come before one,
-- which is what halving finds where the table rises; what is found and put in is `table_with` then; what a refusal leaves; and of a node in order,
-- `take_in` is `taken`. Assumes nothing.
use mathlib.Core.Path.{◌≡◌, refl, sym, ◌∙◌, ap, subst}
use mathlib.Core.Bool.{Bool, true, false, cond, not, ◌&&◌, false≢true}
use mathlib.Core.Logic.{⊎_elim}
use mathlib.Core.List.{List, [], ◌∷◌, ◌++◌, append_assoc}
use Prim.Native.Nat.{ℕ, zero, suc, ◌+◌, ◌-◌, ◌/◌, ◌≤◌, ◌<◌, min}
use native.Mathlib.Omega.{arith}
use borrow.Author.Tests.{le-leb, lt-ltb, le-ltb, ltb-true, eqb-true, eqb-false, eq-eqb, ne_eqb}
use lib.Dec.{ltb, eqb}
use lib.ListN.{length, take, drop, get_or, length-append, length-take, length-drop}
use lib.Seq.{length-take-le, take_all, take-append_seam, drop-append_seam, drop-drop}
use Rattle.keys.specs.declared.store.Store.{Store}
use Rattle.keys.specs.Store.{limit, Sized, store_of, insert_all}
use Rattle.keys.specs.Place.{put_at}
use Rattle.keys.proofs.Tests.{and_left, and_right, lt_or_le, eq_or_ne}
use Rattle.keys.proofs.Rising.{Rising}
use Rattle.keys.proofs.PlaceLaws.{put_at_zero}
use Rattle.keys.proofs.StoreLaws.{in_order_rising, store_of_keys_of}
use Rattle.claims.specs.declared.claim.Claim.{Claim}
use Rattle.claims.specs.Claim.{no_claim}
use Rattle.claims.specs.Reply.{same, ends, with_ends, hear}
use Rattle.claims.specs.Question.{first_no, question6, claim_questions}
use Rattle.claims.specs.Call.{judged}
use Rattle.claims.specs.Lent.{hear_in}
use Rattle.claims.proofs.ClaimLaws.{same_claim}
use Rattle.claims.proofs.QuestionLaws.{Passes, passes, first_no_yes, first_no_no, first_no_append_no, settle_kept, judged_first_no}
use Rattle.claims.proofs.LentLaws.{hear_in_judged, hear_in_fits, hear_in_full}
use Rattle.rule.specs.Table.{table_limit, before, climbs_from, climbs, insert_claim, table_with}
use Rattle.rule.specs.Call.{take_questions, taken}
use Rattle.rule.specs.declared.node.Node.{Node}
use Rattle.rule.specs.Answer.{Rest, Taken}
use Rattle.rule.specs.Node.{blanks, table_by, pending_of, node_keys, node_of, telling, saved_in_order}
use Rattle.rule.proofs.TableLaws.{before_trans, before_total, climbs_from_climbs}
use Rattle.rule.proofs.NodeLaws.{Ordered, ordered_node_in_order, length_telling, length_blanks, blanks_append, blanks_all_unused, drop_blanks, pending_of_node_of}
use Rattle.rule.proofs.CallLaws.{take_questions_yes, take_questions_6, taken_done, taken_refused, ordered_taken, length_pending_of}
use Rattle.nodes.specs.Lent.{rest_of, front_in, left_out, rest_left, admit_in, halved_to, place_among, is_at, placed_at, table_in, take_in}

-- ---- what an image holds, admitted

module _ (l : List ℕ) (t : List Claim) (few : length t ≤ table_limit) where
  judged_is : front_in l (node_of l t).pending.claims (node_of l t).pending.count ≡ saved_in_order (node_of l t)
  unfolding node_of
  judged_is = rw (le-leb (length t) table_limit few, take-append_seam t (blanks (table_limit - length t)))

  -- the claims that pass 16, and zeros
  left_is : left_out (node_of l t).pending.claims (node_of l t).pending.count ≡ (node_of l (telling t)).pending.claims
  unfolding node_of
  left_is =
      let rest = blanks (table_limit - length t) in
      let zeros = blanks (length t - length (telling t)) in
      let fewer : length (telling t) ≤ length t = length_telling t in
      let many : length (telling t ++ zeros) ≡ length t = omega (arith, length-append (telling t) zeros, length_blanks (length t - length (telling t))) in
      let all : length t - length (telling t) + (table_limit - length t) ≡ table_limit - length (telling t) = omega arith in
      rw (take-append_seam t rest, put_at_zero (t ++ rest) (telling t ++ zeros), many, drop-append_seam t rest, append_assoc (telling t) zeros rest)
      (ap (λ (x : List Claim). telling t ++ x) (blanks_append (length t - length (telling t)) (table_limit - length t) ∙ ap blanks all))

  -- An image that passes 1 is admitted as the node of its keys and of the claims that pass 16.
  pub admit_in_saved : saved_in_order (node_of l t) ≡ true → admit_in l (rest_of (node_of l t)) ≡ rest_of (node_of l (telling t))
  unfolding admit_in node_of
  admit_in_saved e =
      let many : length (telling (pending_of (node_of l t))) ≡ length (telling t) = ap (λ (x : List Claim). length (telling x)) (pending_of_node_of l t) in
      rw (judged_is, e) (λ i. record { number = 0; held = (store_of l).count; table = left_is i; count = many i })

  -- One that does not is refused with 1.
  pub admit_in_unsaved : saved_in_order (node_of l t) ≡ false → (admit_in l (rest_of (node_of l t))).number ≡ 1
  unfolding admit_in
  admit_in_unsaved e = rw (judged_is, e)

-- whatever is admitted, so many keys are held as were read
pub held_admit_in : (keys : List ℕ) (r : Rest) → (admit_in keys r).held ≡ r.held
unfolding admit_in
held_admit_in keys r = go (eqb r.number 0) (front_in keys r.table r.count)
  where
    go : (t u : Bool)
        → (cond t (cond u (rest_left r.held r.table r.count) (record { number = 1; held = r.held; table = r.table; count = r.count })) r).held ≡ r.held
    go true true = refl
    go true false = refl
    go false u = refl

-- ---- how many claims of a table come before one

abbrev pub rank : Claim → List Claim → ℕ
rank c [] = 0
rank c (d ∷ ds) = cond (before d c) (suc (rank c ds)) 0

pub rank_le : (c : Claim) (t : List Claim) → rank c t ≤ length t
rank_le c [] = omega arith
rank_le c (d ∷ ds) = go (before d c) (rank_le c ds)
  where
    go : (u : Bool) → rank c ds ≤ length ds → cond u (suc (rank c ds)) 0 ≤ suc (length ds)
    go true h = omega arith
    go false h = omega arith

pub rank_before : (c : Claim) (t : List Claim) (i : ℕ) → i < rank c t → before (get_or t i no_claim) c ≡ true
rank_before c [] i h = absurd (omega arith)
rank_before c (d ∷ ds) zero h = go (before d c) h
  where
    go : (u : Bool) → 0 < cond u (suc (rank c ds)) 0 → u ≡ true
    go true g = refl
    go false g = absurd (omega arith)
rank_before c (d ∷ ds) (suc i) h = go (before d c) h (rank_before c ds i)
  where
    go : (u : Bool) → suc i < cond u (suc (rank c ds)) 0 → (i < rank c ds → before (get_or ds i no_claim) c ≡ true) → before (get_or ds i no_claim) c ≡ true
    go true g below = below (omega arith)
    go false g below = absurd (omega arith)

climbs_from_get_d : (d : Claim) (t : List Claim) (i : ℕ) → climbs_from d t ≡ true → i < length t → before d (get_or t i no_claim) ≡ true
climbs_from_get_d d [] i up h = absurd (omega arith)
climbs_from_get_d d (x ∷ xs) zero up h = and_left (before d x) (climbs_from x xs) up
climbs_from_get_d d (x ∷ xs) (suc i) up h =
    before_trans d x (get_or xs i no_claim) (and_left (before d x) (climbs_from x xs) up)
    (climbs_from_get_d x xs i (and_right (before d x) (climbs_from x xs) up) (omega arith))

pub rank_after : (c : Claim) (t : List Claim) (i : ℕ) → climbs t ≡ true → rank c t ≤ i → i < length t → before (get_or t i no_claim) c ≡ false
rank_after c [] i up h g = absurd (omega arith)
rank_after c (d ∷ ds) zero up h g = go (before d c) h
  where
    go : (u : Bool) → cond u (suc (rank c ds)) 0 ≤ 0 → u ≡ false
    go true f = absurd (omega arith)
    go false f = refl
rank_after c (d ∷ ds) (suc i) up h g = go (before d c) refl h (rank_after c ds i (climbs_from_climbs d ds up))
  where
    later : before d c ≡ false → (v : Bool) → before (get_or ds i no_claim) c ≡ v → v ≡ false
    later e true f = absurd (false≢true (sym e ∙ before_trans d (get_or ds i no_claim) c (climbs_from_get_d d ds i up (omega arith)) f))
    later e false f = refl

    go : (u : Bool) → before d c ≡ u → cond u (suc (rank c ds)) 0 ≤ suc i
        → (rank c ds ≤ i → i < length ds → before (get_or ds i no_claim) c ≡ false) → before (get_or ds i no_claim) c ≡ false
    go true e f below = below (omega arith) (omega arith)
    go false e f below = later e (before (get_or ds i no_claim) c) refl

module _ (c : Claim) (t : List Claim) (up : climbs t ≡ true) where
  halved_to_rank : (n base size : ℕ) → size ≤ n → base ≤ rank c t → rank c t ≤ base + size → base + size ≤ length t → halved_to n t c base size ≡ rank c t
  halved_to_rank zero base size h low high fits = omega arith
  halved_to_rank (suc n) base size h low high fits =
      go (eqb size 0) refl (before (get_or t (base + size / 2) no_claim) c) refl (halved_to_rank n)
    where
      go : (u : Bool) → eqb size 0 ≡ u → (v : Bool) → before (get_or t (base + size / 2) no_claim) c ≡ v
          → ((b s : ℕ) → s ≤ n → b ≤ rank c t → rank c t ≤ b + s → b + s ≤ length t → halved_to n t c b s ≡ rank c t)
          → cond u base (cond v (halved_to n t c (base + size / 2 + 1) (size - (size / 2 + 1))) (halved_to n t c base (size / 2))) ≡ rank c t
      go true e v f again = let z : size ≡ 0 = eqb-true size 0 e in omega arith
      go false e true f again =
          let z = eqb-false size 0 e in
          let past : base + size / 2 < rank c t = ⊎_elim {C = base + size / 2 < rank c t} (λ (p : base + size / 2 < rank c t). p)
          (λ (p : rank c t ≤ base + size / 2). absurd (false≢true (sym (rank_after c t (base + size / 2) up p (omega arith)) ∙ f)))
          (lt_or_le (base + size / 2) (rank c t)) in
          again (base + size / 2 + 1) (size - (size / 2 + 1)) (omega arith) (omega arith) (omega arith) (omega arith)
      go false e false f again =
          let z = eqb-false size 0 e in
          let not_past : rank c t ≤ base + size / 2 = ⊎_elim {C = rank c t ≤ base + size / 2}
          (λ (p : base + size / 2 < rank c t). absurd (false≢true (sym f ∙ rank_before c t (base + size / 2) p)))
          (λ (p : rank c t ≤ base + size / 2). p)
          (lt_or_le (base + size / 2) (rank c t)) in
          again base (size / 2) (omega arith) low not_past (omega arith)

  pub place_among_rank : place_among c t ≡ rank c t
  unfolding place_among
  place_among_rank = halved_to_rank (length t) 0 (length t) (omega arith) (omega arith) (omega (arith, rank_le c t)) (omega arith)

-- ---- what stands at the place of a claim

-- a claim that another comes before is not that other
pub before_not_same : (c d : Claim) → before c d ≡ true → same d c ≡ false
before_not_same c d h = go (same d c) refl
  where
    itself : before c c ≡ false
    itself = rw (eq-eqb c.cnt c.cnt refl, eq-eqb c.lo c.lo refl, eq-eqb c.hi c.hi refl, eq-eqb c.sum c.sum refl)

    go : (t : Bool) → same d c ≡ t → t ≡ false
    go true e = absurd (false≢true (sym itself ∙ (ap (λ (x : Claim). before c x) (sym (same_claim d c e)) ∙ h)))
    go false e = refl

-- of a claim that does not come before c, c comes before it or is it
same_not_before : (c d : Claim) → before d c ≡ false → not (before c d) ≡ same d c
same_not_before c d h = go (before c d) refl (same d c) refl
  where
    go : (u : Bool) → before c d ≡ u → (v : Bool) → same d c ≡ v → not u ≡ v
    go true e true f = absurd (false≢true (sym (before_not_same c d e) ∙ f))
    go true e false f = refl
    go false e true f = refl
    go false e false f = absurd (false≢true (sym e ∙ before_total c d h f))

-- ---- a rising table: what is found and put in is `table_with`

ltb_suc : (a b : ℕ) → ltb (suc a) (suc b) ≡ ltb a b
ltb_suc a b = ⊎_elim {C = ltb (suc a) (suc b) ≡ ltb a b}
    (λ (h : a < b). lt-ltb (suc a) (suc b) (omega arith) ∙ sym (lt-ltb a b h))
    (λ (h : b ≤ a). le-ltb (suc a) (suc b) (omega arith) ∙ sym (le-ltb a b h))
    (lt_or_le a b)

-- a claim is put in after those that come before it, unless it is the one there
pub insert_claim_rank : (c : Claim) (t : List Claim)
    → insert_claim c t ≡ cond (ltb (rank c t) (length t) && same (get_or t (rank c t) no_claim) c) t (placed_at (rank c t) c t)
insert_claim_rank c [] = refl
insert_claim_rank c (d ∷ ds) = go (before d c) (insert_claim_rank c ds)
  where
    under : (v : Bool) → d ∷ cond v ds (placed_at (rank c ds) c ds) ≡ cond v (d ∷ ds) (d ∷ placed_at (rank c ds) c ds)
    under true = refl
    under false = refl

    go : (u : Bool) → insert_claim c ds ≡ cond (ltb (rank c ds) (length ds) && same (get_or ds (rank c ds) no_claim) c) ds (placed_at (rank c ds) c ds)
        → cond u (d ∷ insert_claim c ds) (cond (same d c) (d ∷ ds) (c ∷ (d ∷ ds)))
        ≡ cond (ltb (cond u (suc (rank c ds)) 0) (suc (length ds)) && same (get_or (d ∷ ds) (cond u (suc (rank c ds)) 0) no_claim) c)
        (d ∷ ds)
        (placed_at (cond u (suc (rank c ds)) 0) c (d ∷ ds))
    go true below =
        rw (ltb_suc (rank c ds) (length ds), below) (under (ltb (rank c ds) (length ds) && same (get_or ds (rank c ds) no_claim) c))
    go false below = rw (lt-ltb 0 (suc (length ds)) (omega arith))

module _ (c : Claim) (t : List Claim) (up : climbs t ≡ true) where
  is_at_rank : is_at (rank c t) c t ≡ (ltb (rank c t) (length t) && same (get_or t (rank c t) no_claim) c)
  is_at_rank = go (ltb (rank c t) (length t)) refl
    where
      go : (u : Bool) → ltb (rank c t) (length t) ≡ u → (u && not (before c (get_or t (rank c t) no_claim))) ≡ (u && same (get_or t (rank c t) no_claim) c)
      go true e = same_not_before c (get_or t (rank c t) no_claim) (rank_after c t (rank c t) up (omega arith) (ltb-true (rank c t) (length t) e))
      go false e = refl

  pub table_in_table_with : length t ≤ table_limit → table_in c t ≡ table_with c t
  unfolding table_in
  table_in_table_with short =
      rw (place_among_rank c t up, is_at_rank, insert_claim_rank c t) (go (ltb (rank c t) (length t) && same (get_or t (rank c t) no_claim) c))
    where
      go : (u : Bool) → cond u t (take table_limit (placed_at (rank c t) c t)) ≡ take table_limit (cond u t (placed_at (rank c t) c t))
      go true = sym (take_all table_limit t short)
      go false = refl

-- ---- taking a claim

-- refused: the node is what it was
pub take_in_kept : (n : Node) (c : Claim) → ((take_in n c).number ≡ 0 → ⊥) → (take_in n c).node ≡ n
unfolding take_in
take_in_kept n c = settle_kept (λ (t : Taken). t.number) (λ (t : Taken). t.node)
    (record {
      number = 0;
      node = record {
        store = (hear_in n.store c).store;
        pending = table_by (put_at n.pending.claims 0 (table_in c (pending_of n))) (length (table_in c (pending_of n)));
      };
    })
    (λ x. record { number = x; node = n }) refl (λ x. refl) (hear_in n.store c).number

-- ---- a node in order

-- a table loses no place when a claim is put in
length_insert_claim_ge : (c : Claim) (t : List Claim) → length t ≤ length (insert_claim c t)
length_insert_claim_ge c [] = omega arith
length_insert_claim_ge c (d ∷ ds) = go (before d c) (same d c) (length_insert_claim_ge c ds)
  where
    go : (u v : Bool) → length ds ≤ length (insert_claim c ds) → length (d ∷ ds) ≤ length (cond u (d ∷ insert_claim c ds) (cond v (d ∷ ds) (c ∷ (d ∷ ds))))
    go true v h = omega arith
    go false true h = omega arith
    go false false h = omega arith

module _ (n : Node) (whole : length n.pending.claims ≡ table_limit) (o : Ordered n) where
  -- a table written over that of a node in order, and no shorter: the rest is blanks
  pub put_at_blanks : (t : List Claim) → n.pending.count ≤ length t → put_at n.pending.claims 0 t ≡ t ++ blanks (table_limit - length t)
  unfolding put_at
  put_at_blanks t h =
      let k = n.pending.count in
      let places = n.pending.claims in
      let past : drop k places ≡ blanks (table_limit - k) =
      blanks_all_unused (drop k places) o.unused ∙ ap blanks (length-drop k places ∙ ap (λ (m : ℕ). m - k) whole) in
      let on : k + (length t - k) ≡ length t = omega arith in
      let left : table_limit - k - (length t - k) ≡ table_limit - length t = omega arith in
      ap (λ (l : List Claim). t ++ l)
      (ap (λ (m : ℕ). drop m places) (sym on)
      ∙ (sym (drop-drop (length t - k) k places)
      ∙ (ap (λ (l : List Claim). drop (length t - k) l) past
      ∙ (drop_blanks (length t - k) (table_limit - k) ∙ ap blanks left))))

  module _ (c : Claim) (sized : Sized n.store) where
    -- the store is that of its keys
    pub own_store : n.store ≡ store_of (node_keys n)
    own_store = store_of_keys_of n.store sized o.store

    -- the table with the claim put in, laid out
    table_is : put_at n.pending.claims 0 (table_in c (pending_of n)) ≡ table_with c (pending_of n) ++ blanks (table_limit - length (table_with c (pending_of n)))
    table_is =
        let t = table_in_table_with c (pending_of n) o.table (length_pending_of n o) in
        let few : n.pending.count ≤ table_limit = o.count in
        let many : length (pending_of n) ≡ n.pending.count = length-take-le n.pending.count n.pending.claims (omega arith) in
        let grown : length (pending_of n) ≤ length (insert_claim c (pending_of n)) = length_insert_claim_ge c (pending_of n) in
        let cut : length (table_with c (pending_of n)) ≡ min table_limit (length (insert_claim c (pending_of n))) =
        length-take table_limit (insert_claim c (pending_of n)) in
        ap (λ (u : List Claim). put_at n.pending.claims 0 u) t ∙ put_at_blanks (table_with c (pending_of n)) (omega arith)

    take_judged : (judged c ≡ 0 → ⊥) → take_in n c ≡ taken n c
    unfolding take_in taken judged
    take_judged f =
        let no = first_no_append_no (claim_questions c) (question6 (ends c) (node_keys n) ∷ []) f in
        rw (hear_in_judged n.store c f, ordered_node_in_order n o, no, ne_eqb (first_no (claim_questions c)) 0 f)

    module _ (pass : judged c ≡ 0) where
      good : Passes c
      good = passes c (sym (judged_first_no c) ∙ pass)

      rise : Rising (node_keys n)
      rise = in_order_rising n.store o.store

      take_fits : length (with_ends c (node_keys n)) ≤ limit → take_in n c ≡ taken n c
      unfolding take_in node_of
      take_fits f =
          let l = node_keys n in
          let heard = ap (λ (s : Store). hear_in s c) own_store ∙ hear_in_fits l rise c good f in
          let many : length (table_in c (pending_of n)) ≡ length (table_with c (pending_of n)) =
          ap length (table_in_table_with c (pending_of n) o.table (length_pending_of n o)) in
          let yes : first_no (take_questions n c) ≡ 0 =
          take_questions_6 n c o pass ∙ first_no_yes (question6 (ends c) l) [] (lt-ltb (length (insert_all (ends c) l)) (limit + 1) (omega arith)) in
          rw heard
          ((λ i. record { number = 0; node = record { store = store_of (hear c l); pending = table_by (table_is i) (many i) } }) ∙ sym (taken_done n c yes))

      take_full : limit < length (with_ends c (node_keys n)) → take_in n c ≡ taken n c
      unfolding take_in
      take_full f =
          let l = node_keys n in
          let heard = ap (λ (s : Store). hear_in s c) own_store ∙ hear_in_full l rise c good f in
          let no : first_no (take_questions n c) ≡ 6 =
          take_questions_6 n c o pass ∙ first_no_no (question6 (ends c) l) [] (le-ltb (length (insert_all (ends c) l)) (limit + 1) (omega arith)) in
          rw heard
          (ap (λ (m : ℕ). record { number = m; node = n }) (sym no)
          ∙ sym (taken_refused n c (λ (e : first_no (take_questions n c) ≡ 0). omega arith)))

    -- Taking a claim is `taken`, where the node is in order.
    pub take_in_taken : take_in n c ≡ taken n c
    take_in_taken = ⊎_elim {C = take_in n c ≡ taken n c}
        (λ (pass : judged c ≡ 0). ⊎_elim {C = take_in n c ≡ taken n c} (take_full pass) (take_fits pass) (lt_or_le limit (length (with_ends c (node_keys n)))))
        take_judged (eq_or_ne (judged c) 0)

    -- The node is then in order again, and the next claim may be taken.
    pub ordered_take_in : Ordered (take_in n c).node
    ordered_take_in =
        ⊎_elim {C = Ordered (take_in n c).node}
        (λ (e : first_no (take_questions n c) ≡ 0).
        subst (λ (r : Taken). Ordered r.node) (sym (take_in_taken ∙ taken_done n c e)) (ordered_taken n c (take_questions_yes n c e)))
        (λ (f : first_no (take_questions n c) ≡ 0 → ⊥). subst (λ (r : Taken). Ordered r.node) (sym (take_in_taken ∙ taken_refused n c f)) o)
        (eq_or_ne (first_no (take_questions n c)) 0)
