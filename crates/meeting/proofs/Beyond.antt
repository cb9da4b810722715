-- What follows besides. In order: any beginning of a list that is meant is one, with no more keys entered; at any time in a list with no more different keys
-- entered in all than the limit, no round gets 8 (`never_8`), and a joining gets none but 15 (`joining_asks_15`), no delivery of a claim made before is refused (`made_accepted`), and entering gets 6 only when so
-- many different keys are entered already and this is none of them (`entering_6`): nothing is turned away for want of space before the limit is really reached.
-- Then, without that premise: claims once made pass questions 2 to 5 and 16 for ever; both stores stay within their union and lose no key.
-- Assumes nothing.
use Prim.Native.Nat.{ℕ, suc, ◌+◌, ◌≤◌}
use mathlib.Core.Bool.{Bool, true, false, cond}
use mathlib.Core.List.Memᴰ
use mathlib.Core.List.{List, [], ◌∷◌, ◌++◌, Memᴰ, append_assoc}
use mathlib.Core.Logic.{⊎_elim}
use mathlib.Core.Path.{◌≡◌, refl, sym, ap, ◌∙◌, subst}
use native.Mathlib.Omega.{arith}
use borrow.Author.Tests.{le-leb, lt-ltb, ltb-false}
use lib.ListN.{length}
use Rattle.keys.specs.declared.store.Store.{Store}
use Rattle.keys.specs.Store.{limit, keys_of, insert, insert_all}
use Rattle.keys.proofs.Tests.{eq_or_ne}
use Rattle.keys.proofs.Rising.{Rising, Sub, sub_refl, sub_trans, rising_length}
use Rattle.keys.proofs.Insert.{length_insert_le, insert_sub, insert_rising, insert_all_sub, insert_all_rising, mem_insert_all_new}
use Rattle.keys.proofs.StoreLaws.{in_order_rising, keys_of_store_of}
use Rattle.claims.specs.declared.claim.Claim.{Claim}
use Rattle.claims.specs.Question.{Question, first_no, question1, question6, claim_questions}
use Rattle.claims.specs.Reply.{ends}
use Rattle.claims.specs.Call.{judged, enter_questions, reply_questions}
use Rattle.claims.proofs.QuestionLaws.{first_no_yes, first_no_no, first_no_append_zero, claim_questions_numbered, passes_first_no, judged_first_no}
use Rattle.rule.specs.declared.node.Node.{Node}
use Rattle.rule.specs.declared.delivery.Delivery.{Delivery}
use Rattle.rule.specs.Round.{union, left_end, right_end}
use Rattle.rule.specs.Node.{node_keys}
use Rattle.rule.specs.Question.{node_question1, question8, question9, question15}
use Rattle.rule.specs.Call.{take_questions, round_questions, round_by, met}
use Rattle.rule.proofs.NodeLaws.{ordered_node_in_order}
use Rattle.rule.proofs.Union.{union_rising, union_left, union_right, union_sub}
use Rattle.rule.proofs.RoundLaws.{Rounded}
use Rattle.rule.proofs.CallLaws.{met_done, met_refused, round_questions_yes, round_yes_rounded}
use Rattle.wire.specs.Image.{image_limit}
use Rattle.meeting.specs.Event.{Event, To, enters, delivers, meets, joins}
use Rattle.meeting.specs.World.{World, start, outcome, after, after_all, numbers, entered_by, keys_entered}
use Rattle.meeting.specs.Premise.{AllMeant}
use Rattle.meeting.specs.Statement.{end, keys_in, entered_in, different}
use Rattle.meeting.proofs.Backed.{Backed, backed_passes, backed_ends}
use Rattle.meeting.proofs.WorldLaws.{numbered, number_by, enters_done, enters_refused, replies_done, takes_done, meets_done, meets_refused}
use Rattle.meeting.proofs.WorldLaws.{joining, joins_done, joins_refused}
use Rattle.meeting.proofs.Invariant.{Good}
use Rattle.meeting.proofs.Theorem.{good_end}

-- ---- any beginning of a list

pub all_meant_before : (n : ℕ) (a b : List Event) (w : World) → AllMeant n (a ++ b) w → AllMeant n a w
all_meant_before n [] b w m = tt
all_meant_before n (e ∷ es) b w m = (m.0, all_meant_before n es b (after e w) m.1)

pub keys_entered_append : (a b : List Event) (w : World) →
    keys_entered (a ++ b) (numbers (a ++ b) w) ≡ keys_entered a (numbers a w) ++ keys_entered b (numbers b (after_all a w))
keys_entered_append [] b w = refl
keys_entered_append (e ∷ es) b w =
    ap (λ (x : List ℕ). entered_by e (outcome e w.kiosks).number ++ x) (keys_entered_append es b (after e w))
    ∙ sym (append_assoc (entered_by e (outcome e w.kiosks).number) (keys_entered es (numbers es (after e w)))
    (keys_entered b (numbers b (after_all es (after e w)))))

pub entered_in_before : (a b : List Event) → Sub (entered_in a) (entered_in (a ++ b))
entered_in_before a b k m = subst (λ (x : List ℕ). Memᴰ k x) (sym (keys_entered_append a b start)) (Memᴰ.append_left (keys_entered b (numbers b (end a))) m)

-- rising keys among ks are at most as many as ks has different ones
pub length_different : (l ks : List ℕ) → Rising l → Sub l ks → length l ≤ different ks
length_different l ks r s = rising_length l (insert_all ks []) r (insert_all_rising ks [] tt) (sub_trans l ks (insert_all ks []) s (mem_insert_all_new ks []))

pub different_sub : (a b : List ℕ) → Sub a b → different a ≤ different b
different_sub a b s = length_different (insert_all a []) b (insert_all_rising a [] tt) (insert_all_sub a [] b s (λ k m. absurd (Memᴰ.not-nil m)))

-- the invariant at any time in a list that is meant
good_before : (n : ℕ) (a b es : List Event) → AllMeant n es start → a ++ b ≡ es → Good n (end a) (entered_in a)
good_before n a b es m e = good_end n a (all_meant_before n a b start (subst (λ (x : List Event). AllMeant n x start) (sym e) m))

few_before : (a b es : List Event) → a ++ b ≡ es → different (entered_in es) ≤ limit → different (entered_in a) ≤ limit
few_before a b es e h =
    let p : different (entered_in a) ≤ different (entered_in (a ++ b)) = different_sub (entered_in a) (entered_in (a ++ b)) (entered_in_before a b) in
    let q : different (entered_in (a ++ b)) ≡ different (entered_in es) = ap (λ (x : List Event). different (entered_in x)) e in
    omega arith

-- ---- no round gets 8

meets_number : (k m : ℕ) (lent : List Delivery) (kiosks : ℕ → Node) →
    (outcome (meets k m lent) kiosks).number ≡ first_no (round_questions (kiosks k).store (kiosks m).store (length lent))
meets_number k m lent kiosks = number_by _ _ kiosks (λ z. numbered (meets_done k m lent kiosks z)) (meets_refused k m lent kiosks)

-- the keys of any two kiosks fit into one store
good_union : (n : ℕ) (w : World) (ks : List ℕ) → Good n w ks → different ks ≤ limit → (k m : ℕ) → length (union (keys_in w k) (keys_in w m)) ≤ limit
good_union n w ks g h k m =
    let u : List ℕ = union (keys_in w k) (keys_in w m) in
    let p : length u ≤ different ks
    = length_different u ks (union_rising (keys_in w k) (keys_in w m) (in_order_rising (w.kiosks m).store (g.ordered m).store))
    (union_sub (keys_in w k) (keys_in w m) ks (g.within k) (g.within m)) in
    omega arith

good_never_8 : (n : ℕ) (w : World) (ks : List ℕ) → Good n w ks → different ks ≤ limit → (k m : ℕ) (lent : List Delivery) →
    (outcome (meets k m lent) w.kiosks).number ≡ 8 → ⊥
good_never_8 n w ks g h k m lent e = go q9.yes refl
  where
    s : Store
    s = (w.kiosks k).store

    t : Store
    t = (w.kiosks m).store

    q8 : Question
    q8 = question8 (keys_of s) (keys_of t)

    q9 : Question
    q9 = question9 (keys_of s) (keys_of t) (length lent)

    is : first_no (q9 ∷ []) ≡ 8
    is =
        sym
        (first_no_yes (question1 s) (question1 t ∷ q8 ∷ q9 ∷ []) (g.ordered k).store
        ∙ first_no_yes (question1 t) (q8 ∷ q9 ∷ []) (g.ordered m).store
        ∙ first_no_yes q8 (q9 ∷ []) (le-leb (length (union (keys_of s) (keys_of t))) limit (good_union n w ks g h k m)))
        ∙ sym (meets_number k m lent w.kiosks)
        ∙ e

    go : (b : Bool) → q9.yes ≡ b → ⊥
    go true i = let z : ◌≡◌ {A = ℕ} 0 8 = sym (first_no_yes q9 [] i) ∙ is in omega arith
    go false i = let z : ◌≡◌ {A = ℕ} 9 8 = sym (first_no_no q9 [] i) ∙ is in omega arith

pub never_8 : (n : ℕ) (es : List Event) → AllMeant n es start → different (entered_in es) ≤ limit → (before others : List Event) → before ++ others ≡ es →
    (k m : ℕ) (lent : List Delivery) → (outcome (meets k m lent) (end before).kiosks).number ≡ 8 → ⊥
never_8 n es m h before others e = good_never_8 n (end before) (entered_in before) (good_before n before others es m e) (few_before before others es e h)

-- ---- a joining is refused only where too few bytes are lent to it

good_joining : (n : ℕ) (w : World) (ks : List ℕ) → Good n w ks → different ks ≤ limit → (k m room : ℕ) →
    (outcome (joins k m room) w.kiosks).number ≡ first_no (question15 room image_limit ∷ [])
good_joining n w ks g h k m room =
    let a : Node = w.kiosks k in
    let b : Node = w.kiosks m in
    let q8 : Question = question8 (node_keys a) (node_keys b) in
    let q15 : Question = question15 room image_limit in
    number_by _ (joining k m room w.kiosks) w.kiosks (λ z. numbered (joins_done k m room w.kiosks z)) (joins_refused k m room w.kiosks)
    ∙ first_no_yes (node_question1 a) (node_question1 b ∷ q8 ∷ q15 ∷ []) (ordered_node_in_order a (g.ordered k))
    ∙ first_no_yes (node_question1 b) (q8 ∷ q15 ∷ []) (ordered_node_in_order b (g.ordered m))
    ∙ first_no_yes q8 (q15 ∷ []) (le-leb (length (union (node_keys a) (node_keys b))) limit (good_union n w ks g h k m))

pub joining_asks_15 : (n : ℕ) (es : List Event) → AllMeant n es start → different (entered_in es) ≤ limit → (before others : List Event) → before ++ others ≡ es →
    (k m room : ℕ) → (outcome (joins k m room) (end before).kiosks).number ≡ first_no (question15 room image_limit ∷ [])
joining_asks_15 n es m h before others e = good_joining n (end before) (entered_in before) (good_before n before others es m e) (few_before before others es e h)

-- so it never gets 8
pub joining_never_8 : (n : ℕ) (es : List Event) → AllMeant n es start → different (entered_in es) ≤ limit → (before others : List Event) → before ++ others ≡ es →
    (k m room : ℕ) → (outcome (joins k m room) (end before).kiosks).number ≡ 8 → ⊥
joining_never_8 n es m h before others e k m' room i = go (question15 room image_limit).yes (sym (joining_asks_15 n es m h before others e k m' room) ∙ i)
  where
    go : (b : Bool) → ◌≡◌ {A = ℕ} (cond b 0 15) 8 → ⊥
    go true z = omega (arith, z)
    go false z = omega (arith, z)

-- ---- no delivery of a claim made before is refused

-- its ends fit, beside any kiosk's keys
good_room : (n : ℕ) (w : World) (ks : List ℕ) → Good n w ks → different ks ≤ limit → (k : ℕ) (c : Claim) → Backed ks c →
    (question6 (ends c) (keys_in w k)).yes ≡ true
good_room n w ks g h k c b =
    let l : List ℕ = insert_all (ends c) (keys_in w k) in
    let p : length l ≤ different ks
    = length_different l ks (insert_all_rising (ends c) (keys_in w k) (in_order_rising (w.kiosks k).store (g.ordered k).store))
    (insert_all_sub (ends c) (keys_in w k) ks (backed_ends ks c b) (g.within k)) in
    lt-ltb (length l) (limit + 1) (omega arith)

good_accepted : (n : ℕ) (w : World) (ks : List ℕ) → Good n w ks → different ks ≤ limit → (k : ℕ) (to : To) (c : Claim) → Memᴰ c w.made →
    (outcome (delivers k to c) w.kiosks).number ≡ 0
good_accepted n w ks g h k To.reply c m =
    let b : Backed ks c = g.backed c m in
    let q = question6 (ends c) (keys_in w k) in
    let z : first_no (reply_questions (w.kiosks k).store c) ≡ 0
    = first_no_yes (question1 (w.kiosks k).store) (claim_questions c ++ (q ∷ [])) (g.ordered k).store
    ∙ first_no_append_zero (claim_questions c) (q ∷ []) (claim_questions_numbered c) (passes_first_no c (backed_passes ks c b))
    ∙ first_no_yes q [] (good_room n w ks g h k c b) in
    numbered (replies_done k c w.kiosks z)
good_accepted n w ks g h k To.table c m =
    let b : Backed ks c = g.backed c m in
    let q = question6 (ends c) (keys_in w k) in
    let z : first_no (take_questions (w.kiosks k) c) ≡ 0
    = first_no_yes (node_question1 (w.kiosks k)) (claim_questions c ++ (q ∷ [])) (ordered_node_in_order (w.kiosks k) (g.ordered k))
    ∙ first_no_append_zero (claim_questions c) (q ∷ []) (claim_questions_numbered c) (passes_first_no c (backed_passes ks c b))
    ∙ first_no_yes q [] (good_room n w ks g h k c b) in
    numbered (takes_done k c w.kiosks z)

pub made_accepted : (n : ℕ) (es : List Event) → AllMeant n es start → different (entered_in es) ≤ limit → (before others : List Event) → before ++ others ≡ es →
    (k : ℕ) (to : To) (c : Claim) → Memᴰ c (end before).made → (outcome (delivers k to c) (end before).kiosks).number ≡ 0
made_accepted n es m h before others e = good_accepted n (end before) (entered_in before) (good_before n before others es m e) (few_before before others es e h)

-- ---- entering gets 6 only when the limit is really reached

enters_number : (k x : ℕ) (kiosks : ℕ → Node) → (outcome (enters k x) kiosks).number ≡ first_no (enter_questions (kiosks k).store x)
enters_number k x kiosks = number_by _ _ kiosks (λ z. numbered (enters_done k x kiosks z)) (enters_refused k x kiosks)

good_entering_6 : (n : ℕ) (w : World) (ks : List ℕ) → Good n w ks → different ks ≤ limit → (k x : ℕ) → (outcome (enters k x) w.kiosks).number ≡ 6 →
    (different ks ≡ limit) × (Memᴰ x ks → ⊥)
good_entering_6 n w ks g h k x e =
    let a : limit + 1 ≤ length (insert x l) = full q.yes refl in
    let b : length (insert x l) ≤ suc (length l) = length_insert_le x l in
    let c : length l ≤ different ks = length_different l ks r (g.within k) in (
      omega arith,
      λ (m : Memᴰ x ks).
          let d : length (insert x l) ≤ different ks = length_different (insert x l) ks (insert_rising x l r) (insert_sub x l ks m (g.within k)) in
          omega arith,
    )
  where
    l : List ℕ
    l = keys_in w k

    r : Rising l
    r = in_order_rising (w.kiosks k).store (g.ordered k).store

    q : Question
    q = question6 (x ∷ []) l

    is : first_no (q ∷ []) ≡ 6
    is = sym (first_no_yes (question1 (w.kiosks k).store) (q ∷ []) (g.ordered k).store) ∙ sym (enters_number k x w.kiosks) ∙ e

    full : (b : Bool) → q.yes ≡ b → limit + 1 ≤ length (insert x l)
    full true i = let z : ◌≡◌ {A = ℕ} 0 6 = sym (first_no_yes q [] i) ∙ is in absurd (omega arith)
    full false i = ltb-false (length (insert x l)) (limit + 1) i

pub entering_6 : (n : ℕ) (es : List Event) → AllMeant n es start → different (entered_in es) ≤ limit → (before others : List Event) → before ++ others ≡ es →
    (k x : ℕ) → (outcome (enters k x) (end before).kiosks).number ≡ 6 → (different (entered_in before) ≡ limit) × (Memᴰ x (entered_in before) → ⊥)
entering_6 n es m h before others e = good_entering_6 n (end before) (entered_in before) (good_before n before others es m e) (few_before before others es e h)

-- ---- claims once made pass questions 2 to 5 and 16 for ever, however many keys are entered

pub made_judged : (n : ℕ) (es : List Event) → AllMeant n es start → (c : Claim) → Memᴰ c (end es).made → judged c ≡ 0
made_judged n es m c i = judged_first_no c ∙ passes_first_no c (backed_passes (entered_in es) c ((good_end n es m).backed c i))

-- ---- both stores stay within their union, refused or not, and lose no key

-- what a round makes hold, and held before it, holds of the keys that it returns
met_either : (P : List ℕ → List ℕ → Type 0) (s t : Store) (n : ℕ) →
    (Rounded (keys_of s) (keys_of t) → P (round_by s t).stores.left (round_by s t).stores.right) → P (keys_of s) (keys_of t) →
    P (keys_of (met s t n).left) (keys_of (met s t n).right)
met_either P s t n carried given =
    ⊎_elim
    {C = P (keys_of (met s t n).left) (keys_of (met s t n).right)}
    (λ (z : first_no (round_questions s t n) ≡ 0).
    rw (met_done s t n z, keys_of_store_of (round_by s t).stores.left, keys_of_store_of (round_by s t).stores.right)
    (carried (round_yes_rounded s t n (round_questions_yes s t n z))))
    (λ (f : first_no (round_questions s t n) ≡ 0 → ⊥). rw (met_refused s t n f) given)
    (eq_or_ne (first_no (round_questions s t n)) 0)

pub met_within : (s t : Store) (n : ℕ) →
    Sub (keys_of (met s t n).left) (union (keys_of s) (keys_of t)) × Sub (keys_of (met s t n).right) (union (keys_of s) (keys_of t))
met_within s t n =
    met_either (λ (l r : List ℕ). Sub l (union (keys_of s) (keys_of t)) × Sub r (union (keys_of s) (keys_of t))) s t n
    (λ o. (o.within left_end, o.within right_end)) (union_left (keys_of s) (keys_of t), union_right (keys_of s) (keys_of t))

pub met_keeps : (s t : Store) (n : ℕ) → Sub (keys_of s) (keys_of (met s t n).left) × Sub (keys_of t) (keys_of (met s t n).right)
met_keeps s t n =
    met_either (λ (l r : List ℕ). Sub (keys_of s) l × Sub (keys_of t) r) s t n
    (λ o. (o.grown left_end, o.grown right_end)) (sub_refl (keys_of s), sub_refl (keys_of t))
