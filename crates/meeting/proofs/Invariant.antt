-- What every event keeps (`good_step`), from any world that has it. ks are the keys entered so far: each node is in order, its store laid out as the
-- store of its keys, these among ks, each of ks is in some store, and every claim made is the claim of some span of ks (Backed). In order: the
-- invariant and the start; nodes that grew; the next world; one law for each kind of event; one event; a list of events. Assumes nothing.
use Prim.Native.Nat.{ℕ, ◌≤◌, ◌<◌}
use mathlib.Core.List.{List, [], ◌∷◌, ◌++◌, map, Memᴰ}
use mathlib.Core.List.{append-nil, append_assoc}
use mathlib.Core.Logic.{◌⊎◌, inl, inr, ⊎_elim}
use mathlib.Core.Path.{◌≡◌, refl, sym, ap, ◌∙◌, subst}
use native.Mathlib.Omega.{arith}
use lib.ListN.{length}
use Rattle.keys.specs.declared.store.Store.{Store}
use Rattle.keys.specs.Store.{limit, keys_of, store_of, insert}
use Rattle.keys.proofs.Tests.{eq_or_ne}
use Rattle.keys.proofs.Rising.{Rising, Sub, sub_refl, sub_trans, sub_append_left}
use Rattle.keys.proofs.Insert.{mem_insert_new, mem_insert_old, insert_sub, insert_rising}
use Rattle.keys.proofs.StoreLaws.{keys_of_store_of, count_store_of, in_order_rising}
use Rattle.claims.specs.declared.claim.Claim.{Claim}
use Rattle.claims.specs.Claim.{claim_of}
use Rattle.claims.specs.Question.{first_no}
use Rattle.claims.specs.Reply.{hear, reply, claims_of}
use Rattle.claims.specs.Call.{enter_questions, make_questions, reply_questions}
use Rattle.claims.proofs.ReplyLaws.{hear_rising, hear_old, hear_sub, hear_fits}
use Rattle.rule.specs.declared.node.Node.{Node}
use Rattle.rule.specs.declared.delivery.Delivery.{Delivery}
use Rattle.rule.specs.Table.{serve, sending, table_with, joined_table}
use Rattle.rule.specs.Node.{node_keys, pending_of, node_of}
use Rattle.rule.specs.Round.{union, left_end, right_end, Line}
use Rattle.rule.specs.Call.{take_questions, beat_questions, joined_node, round_questions, round_by}
use Rattle.rule.proofs.NodeLaws.{Ordered, restored, ordered_restored, node_keys_node_of, store_node_of, empty_node_node_of, ordered_empty_node}
use Rattle.rule.proofs.Union.{union_sub, union_left}
use Rattle.rule.proofs.RoundLaws.{Rounded}
use Rattle.rule.proofs.CallLaws.{TakeYes, take_questions_yes, ordered_taken, ordered_beaten, length_node_keys}
use Rattle.rule.proofs.CallLaws.{length_pending_of, RoundYes, round_questions_yes, round_yes_rounded}
use Rattle.rule.proofs.Joining.{JoinYes, join_questions_yes, ordered_joined}
use Rattle.wire.specs.Image.{image_limit}
use Rattle.meeting.specs.Event.{Event, To, enters, makes, delivers, beats, meets, joins}
use Rattle.meeting.specs.World.{World, start, with_node, with_store, Outcome, outcome, after, after_all, numbers, entered_by, keys_entered}
use Rattle.meeting.specs.Premise.{Refused, Meant, AllMeant}
use Rattle.meeting.specs.Statement.{keys_in, InSome}
use Rattle.meeting.proofs.Backed.{Backed, backed_sub, backed_adding, claim_of_backed, reply_backed, sending_backed, round_backed}
use Rattle.meeting.proofs.WorldLaws.{numbered, refusal, with_node_each, with_node_here, with_node_there, EnterYes, enter_questions_yes, enters_done}
use Rattle.meeting.proofs.WorldLaws.{enters_refused, MakeYes, make_questions_yes, makes_done, makes_refused, ReplyYes, reply_questions_yes, replies_done}
use Rattle.meeting.proofs.WorldLaws.{replies_refused, takes_done, takes_refused, beats_done, beats_refused, meets_done, meets_refused}
use Rattle.meeting.proofs.WorldLaws.{joining, joins_done, joins_refused, entered_by_refused}

-- ---- the invariant

pub record Good (n : ℕ) (w : World) (ks : List ℕ) : Type 0 where
  pub ordered : (k : ℕ) → Ordered (w.kiosks k)
  pub laid : (k : ℕ) → (w.kiosks k).store ≡ store_of (keys_in w k)
  pub within : (k : ℕ) → Sub (keys_in w k) ks
  pub found : (x : ℕ) → Memᴰ x ks → InSome n x w
  pub backed : (c : Claim) → Memᴰ c w.made → Backed ks c

-- the store of a node of keys is laid out
laid_node_of : (l : List ℕ) (t : List Claim) → (node_of l t).store ≡ store_of (node_keys (node_of l t))
laid_node_of l t = store_node_of l t ∙ ap store_of (sym (node_keys_node_of l t))

pub good_start : (n : ℕ) → Good n start []
good_start n = record {
  ordered = λ k. ordered_empty_node;
  laid = λ k. subst (λ (a : Node). a.store ≡ store_of (node_keys a)) (sym empty_node_node_of) (laid_node_of [] []);
  within = λ k x m. subst (λ (l : List ℕ). Memᴰ x l) (ap node_keys empty_node_node_of ∙ node_keys_node_of [] []) m;
  found = λ x m. absurd (mathlib.Core.List.Memᴰ.not-nil m);
  backed = λ c m. absurd (mathlib.Core.List.Memᴰ.not-nil m);
}

-- ---- nodes that grew within the keys ks

record Grew (ks : List ℕ) (a b : Node) : Type 0 where
  ordered : Ordered b
  laid : b.store ≡ store_of (node_keys b)
  grown : Sub (node_keys a) (node_keys b)
  within : Sub (node_keys b) ks

grew_same : (n : ℕ) (w : World) (ks ks' : List ℕ) → Good n w ks → Sub ks ks' → (j : ℕ) → Grew ks' (w.kiosks j) (w.kiosks j)
grew_same n w ks ks' g s j =
    record { ordered = g.ordered j; laid = g.laid j; grown = sub_refl (keys_in w j); within = sub_trans (keys_in w j) ks ks' (g.within j) s }

grew_restored : (ks : List ℕ) (a : Node) (l : List ℕ) → Ordered a → Rising l → length l ≤ limit → Sub (node_keys a) l → Sub l ks →
    Grew ks a (restored a (store_of l))
grew_restored ks a l o r h s t = record {
  ordered = ordered_restored a l o r h s;
  laid = ap store_of (sym (keys_of_store_of l));
  grown = subst (λ (m : List ℕ). Sub (node_keys a) m) (sym (keys_of_store_of l)) s;
  within = subst (λ (m : List ℕ). Sub m ks) (sym (keys_of_store_of l)) t;
}

grew_node_of : (ks : List ℕ) (a : Node) (l : List ℕ) (t : List Claim) → Ordered (node_of l t) → Sub (node_keys a) l → Sub l ks → Grew ks a (node_of l t)
grew_node_of ks a l t o s v = record {
  ordered = o;
  laid = laid_node_of l t;
  grown = subst (λ (m : List ℕ). Sub (node_keys a) m) (sym (node_keys_node_of l t)) s;
  within = subst (λ (m : List ℕ). Sub m ks) (sym (node_keys_node_of l t)) v;
}

-- ---- the next world

-- the invariant after the event e
abbrev pub GoodAfter : ℕ → World → List ℕ → Event → Type 0
GoodAfter n w ks e = Good n (after e w) (ks ++ entered_by e (outcome e w.kiosks).number)

abbrev next : World → Outcome → World
next w o = record { kiosks = o.kiosks; made = w.made ++ o.claims }

-- no key is new, ..
good_next : (n : ℕ) (w : World) (ks : List ℕ) (o : Outcome) → Good n w ks → ((j : ℕ) → Grew ks (w.kiosks j) (o.kiosks j)) →
    ((c : Claim) → Memᴰ c o.claims → Backed ks c) → Good n (next w o) ks
good_next n w ks o g f b = record {
  ordered = λ k. (f k).ordered;
  laid = λ k. (f k).laid;
  within = λ k. (f k).within;
  found = λ x m. let t = g.found x m in (t.0, t.1, (f t.0).grown x t.2);
  backed = λ c m. ⊎_elim {C = Backed ks c} (g.backed c) (b c) (mathlib.Core.List.Memᴰ.append_cases w.made m);
}

-- .. as after every event but an entering
good_after : (n : ℕ) (w : World) (ks : List ℕ) (e : Event) (o : Outcome) → outcome e w.kiosks ≡ o → entered_by e o.number ≡ [] →
    Good n (next w o) ks → GoodAfter n w ks e
good_after n w ks e o i z g =
    subst (λ (x : Outcome). Good n (next w x) (ks ++ entered_by e x.number)) (sym i)
    (subst (λ (x : List ℕ). Good n (next w o) x) (sym (ap (λ (y : List ℕ). ks ++ y) z ∙ append-nil ks)) g)

-- a refused call leaves the world as it was
good_refused : (n : ℕ) (w : World) (ks : List ℕ) (e : Event) (x : ℕ) → (x ≡ 0 → ⊥) → outcome e w.kiosks ≡ refusal x w.kiosks →
    Good n w ks → GoodAfter n w ks e
good_refused n w ks e x f i g =
    good_after n w ks e (refusal x w.kiosks) i (entered_by_refused e x f)
    (good_next n w ks (refusal x w.kiosks) g (grew_same n w ks ks g (sub_refl ks)) (λ c m. absurd (mathlib.Core.List.Memᴰ.not-nil m)))

-- a call whose first no is x: it is carried out, or refused
good_settled : (n : ℕ) (w : World) (ks : List ℕ) (e : Event) (x : ℕ) → Good n w ks → ((x ≡ 0 → ⊥) → outcome e w.kiosks ≡ refusal x w.kiosks) →
    (x ≡ 0 → GoodAfter n w ks e) → GoodAfter n w ks e
good_settled n w ks e x g refused done =
    ⊎_elim {C = GoodAfter n w ks e} done (λ (f : x ≡ 0 → ⊥). good_refused n w ks e x f (refused f) g) (eq_or_ne x 0)

-- one node grew, the others are as they were
grew_one : (n : ℕ) (w : World) (ks ks' : List ℕ) → Good n w ks → Sub ks ks' → (k : ℕ) (b : Node) → Grew ks' (w.kiosks k) b →
    (j : ℕ) → Grew ks' (w.kiosks j) (with_node k b w.kiosks j)
grew_one n w ks ks' g s k b h = with_node_each (λ (j : ℕ) (x : Node). Grew ks' (w.kiosks j) x) k b w.kiosks h (grew_same n w ks ks' g s)

-- a delivered claim that was not refused is backed
delivered_backed : (n : ℕ) (w : World) (ks : List ℕ) (e : Event) (c : Claim) → Good n w ks → Memᴰ c w.made ⊎ Refused e w →
    (outcome e w.kiosks).number ≡ 0 → Backed ks c
delivered_backed n w ks e c g (inl m) z = g.backed c m
delivered_backed n w ks e c g (inr f) z = absurd (f z)

-- ---- one law for each kind of event

module _ (n : ℕ) (w : World) (ks : List ℕ) (g : Good n w ks) where
  good_enters : (k x : ℕ) → k < n → GoodAfter n w ks (enters k x)
  good_enters k x h = good_settled n w ks (enters k x) (first_no (enter_questions s x)) g (enters_refused k x w.kiosks) done
    where
      s : Store
      s = (w.kiosks k).store

      l : List ℕ
      l = insert x (keys_in w k)

      ks' : List ℕ
      ks' = ks ++ (x ∷ [])

      b : Node
      b = restored (w.kiosks k) (store_of l)

      old : Sub ks ks'
      old = sub_append_left ks (x ∷ [])

      new : Sub l ks'
      new = insert_sub x (keys_in w k) ks' (mathlib.Core.List.Memᴰ.append_right ks (mathlib.Core.List.Memᴰ.head refl)) (sub_trans (keys_in w k) ks ks' (g.within k) old)

      here : Memᴰ x (node_keys (with_node k b w.kiosks k))
      here = subst (λ (m : List ℕ). Memᴰ x m) (sym (ap node_keys (with_node_here k b w.kiosks) ∙ keys_of_store_of l)) (mem_insert_new x (keys_in w k))

      done : first_no (enter_questions s x) ≡ 0 → GoodAfter n w ks (enters k x)
      done z =
          let y : EnterYes s x = enter_questions_yes s x z in
          let r : Rising l = insert_rising x (keys_in w k) (in_order_rising s y.store) in
          let f : (j : ℕ) → Grew ks' (w.kiosks j) (with_node k b w.kiosks j)
          = grew_one n w ks ks' g old k b (grew_restored ks' (w.kiosks k) l (g.ordered k) r y.room (mem_insert_old x (keys_in w k)) new) in
          subst (λ (o : Outcome). Good n (next w o) (ks ++ entered_by (enters k x) o.number)) (sym (enters_done k x w.kiosks z)) (record {
            ordered = λ j. (f j).ordered;
            laid = λ j. (f j).laid;
            within = λ j. (f j).within;
            found = λ i m.
                ⊎_elim
                {C = InSome n i (record { kiosks = with_node k b w.kiosks; made = w.made ++ [] })}
                (λ (a : Memᴰ i ks). let t = g.found i a in (t.0, t.1, (f t.0).grown i t.2))
                (λ (a : Memᴰ i (x ∷ [])). (k, h, mathlib.Core.List.Memᴰ.cast (mathlib.Core.List.Memᴰ.eq_of_singleton a) here))
                (mathlib.Core.List.Memᴰ.append_cases ks m);
            backed = λ c m.
                backed_sub ks ks' c old
                (⊎_elim {C = Backed ks c} (g.backed c) (λ (a : Memᴰ c []). absurd (mathlib.Core.List.Memᴰ.not-nil a)) (mathlib.Core.List.Memᴰ.append_cases w.made m));
          })

  good_makes : (k i j : ℕ) → GoodAfter n w ks (makes k i j)
  good_makes k i j = good_settled n w ks (makes k i j) (first_no (make_questions s i j)) g (makes_refused k i j w.kiosks) done
    where
      s : Store
      s = (w.kiosks k).store

      o : Outcome
      o = record { number = 0; kiosks = w.kiosks; claims = claim_of i j (keys_of s) ∷ [] }

      made_backed : MakeYes s i j → (c : Claim) → c ≡ claim_of i j (keys_of s) → Backed ks c
      made_backed y c e =
          let q : s.count ≡ length (keys_of s) = ap (λ (t : Store). t.count) (g.laid k) ∙ count_store_of (keys_of s) in
          let b : j < s.count = y.below in
          subst (Backed ks) (sym e)
          (claim_of_backed ks (keys_of s) i j (in_order_rising s y.store) (length_node_keys (w.kiosks k) (g.ordered k)) (g.within k) y.ordered
          (omega arith))

      done : first_no (make_questions s i j) ≡ 0 → GoodAfter n w ks (makes k i j)
      done z =
          good_after n w ks (makes k i j) o (makes_done k i j w.kiosks z) refl
          (good_next n w ks o g (grew_same n w ks ks g (sub_refl ks)) (λ c m. made_backed (make_questions_yes s i j z) c (mathlib.Core.List.Memᴰ.eq_of_singleton m)))

  good_replies : (k : ℕ) (c : Claim) → Memᴰ c w.made ⊎ Refused (delivers k To.reply c) w → GoodAfter n w ks (delivers k To.reply c)
  good_replies k c d = good_settled n w ks (delivers k To.reply c) (first_no (reply_questions s c)) g (replies_refused k c w.kiosks) done
    where
      s : Store
      s = (w.kiosks k).store

      l : List ℕ
      l = keys_in w k

      b : Node
      b = restored (w.kiosks k) (store_of (hear c l))

      o : Outcome
      o = record { number = 0; kiosks = with_node k b w.kiosks; claims = claims_of (reply c l) }

      done : first_no (reply_questions s c) ≡ 0 → GoodAfter n w ks (delivers k To.reply c)
      done z =
          let y : ReplyYes s c = reply_questions_yes s c z in
          let i : outcome (delivers k To.reply c) w.kiosks ≡ o = replies_done k c w.kiosks z in
          let v : Backed ks c = delivered_backed n w ks (delivers k To.reply c) c g d (numbered i) in
          let h : Sub (hear c l) ks = hear_sub c l ks (backed_adding ks c l v) (g.within k) in
          let r : Rising l = in_order_rising s y.store in
          good_after n w ks (delivers k To.reply c) o i refl
          (good_next n w ks o g
          (grew_one n w ks ks g (sub_refl ks) k b (grew_restored ks (w.kiosks k) (hear c l) (g.ordered k) (hear_rising c l r)
          (hear_fits c l y.room) (hear_old c l) h))
          (reply_backed ks l c r y.passes (hear_fits c l y.room) h))

  good_takes : (k : ℕ) (c : Claim) → Memᴰ c w.made ⊎ Refused (delivers k To.table c) w → GoodAfter n w ks (delivers k To.table c)
  good_takes k c d = good_settled n w ks (delivers k To.table c) (first_no (take_questions a c)) g (takes_refused k c w.kiosks) done
    where
      a : Node
      a = w.kiosks k

      l : List ℕ
      l = keys_in w k

      b : Node
      b = node_of (hear c l) (table_with c (pending_of a))

      o : Outcome
      o = record { number = 0; kiosks = with_node k b w.kiosks; claims = [] }

      done : first_no (take_questions a c) ≡ 0 → GoodAfter n w ks (delivers k To.table c)
      done z =
          let y : TakeYes a c = take_questions_yes a c z in
          let i : outcome (delivers k To.table c) w.kiosks ≡ o = takes_done k c w.kiosks z in
          let v : Backed ks c = delivered_backed n w ks (delivers k To.table c) c g d (numbered i) in
          let h : Sub (hear c l) ks = hear_sub c l ks (backed_adding ks c l v) (g.within k) in
          good_after n w ks (delivers k To.table c) o i refl
          (good_next n w ks o g
          (grew_one n w ks ks g (sub_refl ks) k b (grew_node_of ks a (hear c l) (table_with c (pending_of a)) (ordered_taken a c y) (hear_old c l) h))
          (λ x m. absurd (mathlib.Core.List.Memᴰ.not-nil m)))

  good_beats : (k : ℕ) (lent : List ℕ) → GoodAfter n w ks (beats k lent)
  good_beats k lent = good_settled n w ks (beats k lent) (first_no (beat_questions a lent)) g (beats_refused k lent w.kiosks) done
    where
      a : Node
      a = w.kiosks k

      l : List ℕ
      l = keys_in w k

      kept : List Claim
      kept = (serve l (pending_of a)).kept

      o : Outcome
      o = record { number = 0; kiosks = with_node k (node_of l kept) w.kiosks; claims = sending l (pending_of a) }

      order : Ordered (node_of l kept)
      order = ordered_beaten a (g.ordered k) (length_pending_of a (g.ordered k))

      done : first_no (beat_questions a lent) ≡ 0 → GoodAfter n w ks (beats k lent)
      done z =
          good_after n w ks (beats k lent) o (beats_done k lent w.kiosks z) refl
          (good_next n w ks o g
          (grew_one n w ks ks g (sub_refl ks) k (node_of l kept) (grew_node_of ks a l kept order (sub_refl l) (g.within k)))
          (sending_backed ks l (pending_of a) (in_order_rising a.store (g.ordered k).store) (length_node_keys a (g.ordered k)) (g.within k)
          (g.ordered k).fit))

  good_meets : (k m : ℕ) (lent : List Delivery) → (k ≡ m → ⊥) → GoodAfter n w ks (meets k m lent)
  good_meets k m lent different = good_settled n w ks (meets k m lent) (first_no (round_questions s t (length lent))) g (meets_refused k m lent w.kiosks) done
    where
      s : Store
      s = (w.kiosks k).store

      t : Store
      t = (w.kiosks m).store

      u : List ℕ
      u = union (keys_of s) (keys_of t)

      l : List ℕ
      l = (round_by s t).stores.left

      r : List ℕ
      r = (round_by s t).stores.right

      kiosks' : ℕ → Node
      kiosks' = with_store k (store_of l) w.kiosks

      o : Outcome
      o = record { number = 0; kiosks = with_store m (store_of r) kiosks'; claims = map (λ (x : Line). x.delivery.claim) (round_by s t).lines }

      known : Sub u ks
      known = union_sub (keys_of s) (keys_of t) ks (g.within k) (g.within m)

      lines_backed : (xs : List Line) → ((x : Line) → Memᴰ x xs → Backed u x.delivery.claim) → (c : Claim) →
          Memᴰ c (map (λ (x : Line). x.delivery.claim) xs) → Backed ks c
      lines_backed [] f c i = absurd (mathlib.Core.List.Memᴰ.not-nil i)
      lines_backed (x ∷ xs) f c (mathlib.Core.List.Memᴰ.head e) = subst (Backed ks) (sym e) (backed_sub u ks x.delivery.claim known (f x (mathlib.Core.List.Memᴰ.head refl)))
      lines_backed (x ∷ xs) f c (mathlib.Core.List.Memᴰ.tail i) = lines_backed xs (λ y a. f y (mathlib.Core.List.Memᴰ.tail a)) c i

      -- an end of the round: its keys grew within the union
      end_grew : (j : ℕ) (x : List ℕ) → Rising x → length x ≤ limit → Sub (keys_in w j) x → Sub x u → Grew ks (w.kiosks j) (restored (w.kiosks j) (store_of x))
      end_grew j x rx h old new = grew_restored ks (w.kiosks j) x (g.ordered j) rx h old (sub_trans x u ks new known)

      done : first_no (round_questions s t (length lent)) ≡ 0 → GoodAfter n w ks (meets k m lent)
      done z =
          let y : RoundYes s t (length lent) = round_questions_yes s t (length lent) z in
          let q : Rounded (keys_of s) (keys_of t) = round_yes_rounded s t (length lent) y in
          let first : (j : ℕ) → Grew ks (w.kiosks j) (kiosks' j)
          = grew_one n w ks ks g (sub_refl ks) k (restored (w.kiosks k) (store_of l))
          (end_grew k l (q.rises left_end) (q.fits left_end) (q.grown left_end) (q.within left_end)) in
          let same : kiosks' m ≡ w.kiosks m = with_node_there k m (restored (w.kiosks k) (store_of l)) w.kiosks (λ (e : m ≡ k). different (sym e)) in
          let second : Grew ks (w.kiosks m) (restored (kiosks' m) (store_of r))
          = subst (λ (x : Node). Grew ks (w.kiosks m) (restored x (store_of r))) (sym same)
          (end_grew m r (q.rises right_end) (q.fits right_end) (q.grown right_end) (q.within right_end)) in
          good_after n w ks (meets k m lent) o (meets_done k m lent w.kiosks z) refl
          (good_next n w ks o g
          (with_node_each (λ (j : ℕ) (x : Node). Grew ks (w.kiosks j) x) m (restored (kiosks' m) (store_of r)) kiosks' second first)
          (lines_backed (round_by s t).lines (round_backed (keys_of s) (keys_of t) (in_order_rising s y.left) (in_order_rising t y.right) y.fits)))

  good_joins : (k m room : ℕ) → GoodAfter n w ks (joins k m room)
  good_joins k m room = good_settled n w ks (joins k m room) (joining k m room w.kiosks) g (joins_refused k m room w.kiosks) done
    where
      a : Node
      a = w.kiosks k

      b : Node
      b = w.kiosks m

      o : Outcome
      o = record { number = 0; kiosks = with_node k (joined_node a b) w.kiosks; claims = [] }

      done : joining k m room w.kiosks ≡ 0 → GoodAfter n w ks (joins k m room)
      done z =
          let y : JoinYes a b = join_questions_yes a b room image_limit z in
          good_after n w ks (joins k m room) o (joins_done k m room w.kiosks z) refl
          (good_next n w ks o g
          (grew_one n w ks ks g (sub_refl ks) k (joined_node a b)
          (grew_node_of ks a (union (node_keys a) (node_keys b)) (joined_table (pending_of a) (pending_of b)) (ordered_joined a b y)
          (union_left (node_keys a) (node_keys b)) (union_sub (node_keys a) (node_keys b) ks (g.within k) (g.within m))))
          (λ c i. absurd (mathlib.Core.List.Memᴰ.not-nil i)))

-- ---- one event, from any world that meets the invariant

pub good_step : (n : ℕ) (w : World) (ks : List ℕ) (e : Event) → Good n w ks → Meant n e w → GoodAfter n w ks e
good_step n w ks (enters k x) g m = good_enters n w ks g k x m
good_step n w ks (makes k i j) g m = good_makes n w ks g k i j
good_step n w ks (delivers k To.reply c) g m = good_replies n w ks g k c m.1
good_step n w ks (delivers k To.table c) g m = good_takes n w ks g k c m.1
good_step n w ks (beats k lent) g m = good_beats n w ks g k lent
good_step n w ks (meets k j lent) g m = good_meets n w ks g k j lent m.2
good_step n w ks (joins k j room) g m = good_joins n w ks g k j room

-- ---- a list of events

pub good_all : (n : ℕ) (w : World) (ks : List ℕ) (es : List Event) → Good n w ks → AllMeant n es w →
    Good n (after_all es w) (ks ++ keys_entered es (numbers es w))
good_all n w ks [] g m = subst (λ (x : List ℕ). Good n w x) (sym (append-nil ks)) g
good_all n w ks (e ∷ es) g m =
    let here : List ℕ = entered_by e (outcome e w.kiosks).number in
    let later : List ℕ = keys_entered es (numbers es (after e w)) in
    subst (λ (x : List ℕ). Good n (after_all es (after e w)) x) (append_assoc ks here later)
    (good_all n (after e w) (ks ++ here) es (good_step n w ks e g m.0) m.1)
