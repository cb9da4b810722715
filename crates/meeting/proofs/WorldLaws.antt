-- What a call comes to, as an event: `outcome` of World. In order: one kiosk's node replaced; what is read off the lent places is what was written;
-- for each kind of event, what it says that its questions were answered yes, and its outcome carried out and refused; a refused call changes no
-- kiosk, makes no claim and enters no key (`outcome_refused`): that is proved here of the calls' own definitions. Assumes nothing.
use Prim.Native.Nat.{ℕ, ◌+◌, ◌≤◌, ◌<◌}
use mathlib.Core.Bool.{Bool, true, false, cond}
use mathlib.Core.List.{List, [], ◌∷◌, ◌++◌, map}
use mathlib.Core.Logic.{⊎_elim}
use mathlib.Core.Path.{◌≡◌, refl, sym, ap, ◌∙◌, subst, fun_ext}
use native.Mathlib.Omega.{arith}
use borrow.Author.Tests.{ltb-true, leb-true, eqb-true, eq-eqb, ne_eqb}
use lib.Dec.{leb, ltb, eqb}
use lib.ListN.{length, drop}
use Rattle.keys.specs.declared.store.Store.{Store}
use Rattle.keys.specs.Store.{limit, keys_of, store_of, in_order, insert, insert_all}
use Rattle.keys.proofs.Tests.{and_left, and_right, eq_or_ne}
use Rattle.keys.proofs.PlaceLaws.{put_at_zero}
use Rattle.claims.specs.declared.claim.Claim.{Claim}
use Rattle.claims.specs.Claim.{claim_of}
use Rattle.claims.specs.Question.{first_no, question1, question6, question7, claim_questions}
use Rattle.claims.specs.Reply.{ends, hear, reply, claims_of}
use Rattle.claims.specs.Call.{enter_questions, entered, make_questions, made, reply_questions, replied}
use Rattle.claims.proofs.QuestionLaws.{first_no_zero, Passes, passes}
use Rattle.claims.proofs.ReplyLaws.{number_of_answer}
use Rattle.rule.specs.declared.node.Node.{Node}
use Rattle.rule.specs.declared.delivery.Delivery.{Delivery}
use Rattle.rule.specs.Table.{table_with, serve, sending}
use Rattle.rule.specs.Node.{node_keys, pending_of, node_of}
use Rattle.rule.specs.Round.{Line, transcript}
use Rattle.rule.specs.Call.{take_questions, claim_words, beat_questions, joined_node, join_questions, joined, round_questions, round_by}
use Rattle.rule.proofs.CallLaws.{claim_questions_6, taken_done, taken_refused, beaten_done, beaten_refused, beaten_lent_done, met_done, met_refused, met_lent_done}
use Rattle.rule.proofs.Joining.{joined_done, joined_refused}
use Rattle.wire.specs.Image.{image_limit}
use Rattle.meeting.specs.Event.{Event, To, enters, makes, delivers, beats, meets, joins}
use Rattle.meeting.specs.World.{with_node, with_store, Outcome, read_claims, read_records, outcome, entered_by}

-- ---- one kiosk's node replaced

pub with_node_here : (k : ℕ) (n : Node) (kiosks : ℕ → Node) → with_node k n kiosks k ≡ n
with_node_here k n kiosks = rw (eq-eqb k k refl)

pub with_node_there : (k j : ℕ) (n : Node) (kiosks : ℕ → Node) → (j ≡ k → ⊥) → with_node k n kiosks j ≡ kiosks j
with_node_there k j n kiosks f = rw (ne_eqb j k f)

pub with_node_each : (P : ℕ → Node → Type 0) (k : ℕ) (n : Node) (kiosks : ℕ → Node) → P k n → ((j : ℕ) → P j (kiosks j)) → (j : ℕ) → P j (with_node k n kiosks j)
with_node_each P k n kiosks h f j = go (eqb j k) refl
  where
    go : (t : Bool) → eqb j k ≡ t → P j (cond t n (kiosks j))
    go true e = subst (λ (i : ℕ). P i n) (sym (eqb-true j k e)) h
    go false e = f j

pub with_node_same : (k : ℕ) (kiosks : ℕ → Node) → with_node k (kiosks k) kiosks ≡ kiosks
with_node_same k kiosks = fun_ext (λ j. go j (eqb j k) refl)
  where
    go : (j : ℕ) (t : Bool) → eqb j k ≡ t → cond t (kiosks k) (kiosks j) ≡ kiosks j
    go j true e = ap kiosks (sym (eqb-true j k e))
    go j false e = refl

pub with_store_same : (k : ℕ) (kiosks : ℕ → Node) → with_store k (kiosks k).store kiosks ≡ kiosks
with_store_same k kiosks = with_node_same k kiosks

-- a call refused with the number n: the kiosks as they were, and no claim
abbrev pub refusal : ℕ → (ℕ → Node) → Outcome
refusal n kiosks = record { number = n; kiosks = kiosks; claims = [] }

pub numbered : {o p : Outcome} → o ≡ p → o.number ≡ p.number
numbered e = ap (λ (o : Outcome). o.number) e

-- ---- what is read off the lent places

pub read_claims_words : (cs : List Claim) (rest : List ℕ) → read_claims (length cs) (claim_words cs ++ rest) ≡ cs
read_claims_words [] rest = refl
read_claims_words (c ∷ cs) rest = ap (λ (x : List Claim). c ∷ x) (read_claims_words cs rest)

pub read_records_lines : (xs : List Line) (rest : List Delivery) →
    read_records (length xs) (map (λ (x : Line). x.delivery) xs ++ rest) ≡ map (λ (x : Line). x.delivery.claim) xs
read_records_lines [] rest = refl
read_records_lines (x ∷ xs) rest = ap (λ (y : List Claim). x.delivery.claim ∷ y) (read_records_lines xs rest)

-- ---- entering

pub record EnterYes (s : Store) (x : ℕ) : Type 0 where
  pub store : in_order s ≡ true
  pub room : length (insert x (keys_of s)) ≤ limit

pub enter_questions_yes : (s : Store) (x : ℕ) → first_no (enter_questions s x) ≡ 0 → EnterYes s x
enter_questions_yes s x h =
    let q = question6 (x ∷ []) (keys_of s) in
    let a = first_no_zero (question1 s) (q ∷ []) (omega arith) h in
    let b = first_no_zero q [] (omega arith) a.1 in
    let c : length (insert x (keys_of s)) < limit + 1 = ltb-true (length (insert x (keys_of s))) (limit + 1) b.0 in
    record { store = a.0; room = omega arith }

pub enters_done : (k x : ℕ) (kiosks : ℕ → Node) → first_no (enter_questions (kiosks k).store x) ≡ 0 →
    outcome (enters k x) kiosks ≡ record { number = 0; kiosks = with_store k (store_of (insert x (keys_of (kiosks k).store))) kiosks; claims = [] }
unfolding outcome entered
enters_done k x kiosks h = rw (eq-eqb (first_no (enter_questions (kiosks k).store x)) 0 h)

pub enters_refused : (k x : ℕ) (kiosks : ℕ → Node) → (first_no (enter_questions (kiosks k).store x) ≡ 0 → ⊥) →
    outcome (enters k x) kiosks ≡ refusal (first_no (enter_questions (kiosks k).store x)) kiosks
unfolding outcome entered
enters_refused k x kiosks f =
    rw (ne_eqb (first_no (enter_questions (kiosks k).store x)) 0 f) (ap (refusal (first_no (enter_questions (kiosks k).store x))) (with_store_same k kiosks))

-- ---- making

pub record MakeYes (s : Store) (i j : ℕ) : Type 0 where
  pub store : in_order s ≡ true
  pub ordered : i ≤ j
  pub below : j < s.count

pub make_questions_yes : (s : Store) (i j : ℕ) → first_no (make_questions s i j) ≡ 0 → MakeYes s i j
make_questions_yes s i j h =
    let a = first_no_zero (question1 s) (question7 i j s.count ∷ []) (omega arith) h in
    let b = first_no_zero (question7 i j s.count) [] (omega arith) a.1 in
    record {
      store = a.0;
      ordered = leb-true i j (and_left (leb i j) (ltb j s.count) b.0);
      below = ltb-true j s.count (and_right (leb i j) (ltb j s.count) b.0);
    }

pub makes_done : (k i j : ℕ) (kiosks : ℕ → Node) → first_no (make_questions (kiosks k).store i j) ≡ 0 →
    outcome (makes k i j) kiosks ≡ record { number = 0; kiosks = kiosks; claims = claim_of i j (keys_of (kiosks k).store) ∷ [] }
unfolding outcome made
makes_done k i j kiosks h = rw (eq-eqb (first_no (make_questions (kiosks k).store i j)) 0 h)

pub makes_refused : (k i j : ℕ) (kiosks : ℕ → Node) → (first_no (make_questions (kiosks k).store i j) ≡ 0 → ⊥) →
    outcome (makes k i j) kiosks ≡ refusal (first_no (make_questions (kiosks k).store i j)) kiosks
unfolding outcome made
makes_refused k i j kiosks f = rw (ne_eqb (first_no (make_questions (kiosks k).store i j)) 0 f, ne_eqb (first_no (make_questions (kiosks k).store i j)) 0 f)

-- ---- a claim delivered to the reply

pub record ReplyYes (s : Store) (c : Claim) : Type 0 where
  pub store : in_order s ≡ true
  pub passes : Passes c
  pub room : length (insert_all (ends c) (keys_of s)) ≤ limit

pub reply_questions_yes : (s : Store) (c : Claim) → first_no (reply_questions s c) ≡ 0 → ReplyYes s c
reply_questions_yes s c h =
    let a = first_no_zero (question1 s) (claim_questions c ++ (question6 (ends c) (keys_of s) ∷ [])) (omega arith) h in
    let b = claim_questions_6 c (keys_of s) a.1 in
    record { store = a.0; passes = passes c b.0; room = b.1 }

pub replies_done : (k : ℕ) (c : Claim) (kiosks : ℕ → Node) → first_no (reply_questions (kiosks k).store c) ≡ 0 →
    outcome (delivers k To.reply c) kiosks
    ≡ record { number = 0; kiosks = with_store k (store_of (hear c (keys_of (kiosks k).store))) kiosks; claims = claims_of (reply c (keys_of (kiosks k).store)) }
unfolding outcome replied
replies_done k c kiosks h =
    let l : List ℕ = keys_of (kiosks k).store in
    rw (eq-eqb (first_no (reply_questions (kiosks k).store c)) 0 h)
    (ap (λ (n : ℕ). record { number = n; kiosks = with_store k (store_of (hear c l)) kiosks; claims = claims_of (reply c l) }) (number_of_answer c (hear c l)))

pub replies_refused : (k : ℕ) (c : Claim) (kiosks : ℕ → Node) → (first_no (reply_questions (kiosks k).store c) ≡ 0 → ⊥) →
    outcome (delivers k To.reply c) kiosks ≡ refusal (first_no (reply_questions (kiosks k).store c)) kiosks
unfolding outcome replied
replies_refused k c kiosks f =
    rw (ne_eqb (first_no (reply_questions (kiosks k).store c)) 0 f) (ap (refusal (first_no (reply_questions (kiosks k).store c))) (with_store_same k kiosks))

-- ---- a claim delivered to the table

pub takes_done : (k : ℕ) (c : Claim) (kiosks : ℕ → Node) → first_no (take_questions (kiosks k) c) ≡ 0 →
    outcome (delivers k To.table c) kiosks
    ≡ record { number = 0; kiosks = with_node k (node_of (hear c (node_keys (kiosks k))) (table_with c (pending_of (kiosks k)))) kiosks; claims = [] }
unfolding outcome
takes_done k c kiosks h = rw (taken_done (kiosks k) c h)

pub takes_refused : (k : ℕ) (c : Claim) (kiosks : ℕ → Node) → (first_no (take_questions (kiosks k) c) ≡ 0 → ⊥) →
    outcome (delivers k To.table c) kiosks ≡ refusal (first_no (take_questions (kiosks k) c)) kiosks
unfolding outcome
takes_refused k c kiosks f = rw (taken_refused (kiosks k) c f) (ap (refusal (first_no (take_questions (kiosks k) c))) (with_node_same k kiosks))

-- ---- a beat

pub beats_done : (k : ℕ) (lent : List ℕ) (kiosks : ℕ → Node) → first_no (beat_questions (kiosks k) lent) ≡ 0 →
    outcome (beats k lent) kiosks
    ≡ record {
      number = 0;
      kiosks = with_node k (node_of (node_keys (kiosks k)) (serve (node_keys (kiosks k)) (pending_of (kiosks k))).kept) kiosks;
      claims = sending (node_keys (kiosks k)) (pending_of (kiosks k));
    }
unfolding outcome
beats_done k lent kiosks h =
    let cs : List Claim = sending (node_keys (kiosks k)) (pending_of (kiosks k)) in
    rw (beaten_done (kiosks k) lent h, beaten_lent_done (kiosks k) lent h, put_at_zero, read_claims_words cs (drop (length (claim_words cs)) lent))

pub beats_refused : (k : ℕ) (lent : List ℕ) (kiosks : ℕ → Node) → (first_no (beat_questions (kiosks k) lent) ≡ 0 → ⊥) →
    outcome (beats k lent) kiosks ≡ refusal (first_no (beat_questions (kiosks k) lent)) kiosks
unfolding outcome
beats_refused k lent kiosks f =
    rw (beaten_refused (kiosks k) lent f)
    (ap (refusal (first_no (beat_questions (kiosks k) lent))) (with_node_same k kiosks))

-- ---- a round

pub meets_done : (k m : ℕ) (lent : List Delivery) (kiosks : ℕ → Node) → first_no (round_questions (kiosks k).store (kiosks m).store (length lent)) ≡ 0 →
    outcome (meets k m lent) kiosks
    ≡ record {
      number = 0;
      kiosks =
          with_store m (store_of (round_by (kiosks k).store (kiosks m).store).stores.right)
          (with_store k (store_of (round_by (kiosks k).store (kiosks m).store).stores.left) kiosks);
      claims = map (λ (x : Line). x.delivery.claim) (round_by (kiosks k).store (kiosks m).store).lines;
    }
unfolding outcome
meets_done k m lent kiosks h =
    let s : Store = (kiosks k).store in
    let t : Store = (kiosks m).store in
    rw (met_done s t (length lent) h, met_lent_done s t lent h, put_at_zero, read_records_lines (round_by s t).lines (drop (length (transcript (round_by s t))) lent))

pub meets_refused : (k m : ℕ) (lent : List Delivery) (kiosks : ℕ → Node) →
    (first_no (round_questions (kiosks k).store (kiosks m).store (length lent)) ≡ 0 → ⊥) →
    outcome (meets k m lent) kiosks ≡ refusal (first_no (round_questions (kiosks k).store (kiosks m).store (length lent))) kiosks
unfolding outcome
meets_refused k m lent kiosks f =
    let s : Store = (kiosks k).store in
    let t : Store = (kiosks m).store in
    rw (met_refused s t (length lent) f)
    (ap (λ (g : ℕ → Node). refusal (first_no (round_questions s t (length lent))) (with_store m t g)) (with_store_same k kiosks)
    ∙ ap (refusal (first_no (round_questions s t (length lent)))) (with_store_same m kiosks))

-- ---- a joining

module _ (k m room : ℕ) (kiosks : ℕ → Node) where
  -- its questions
  abbrev pub joining : ℕ
  joining = first_no (join_questions (kiosks k) (kiosks m) room image_limit)

  pub joins_done : joining ≡ 0 →
      outcome (joins k m room) kiosks ≡ record { number = 0; kiosks = with_node k (joined_node (kiosks k) (kiosks m)) kiosks; claims = [] }
  unfolding outcome
  joins_done h = rw (joined_done (kiosks k) (kiosks m) room image_limit h)

  pub joins_refused : (joining ≡ 0 → ⊥) → outcome (joins k m room) kiosks ≡ refusal joining kiosks
  unfolding outcome
  joins_refused f = rw (joined_refused (kiosks k) (kiosks m) room image_limit f) (ap (refusal joining) (with_node_same k kiosks))

  -- "the other stays as it is" (document 02, slip 9), and so does every kiosk but the one joined into, whether or not the joining is refused
  pub joins_others : (j : ℕ) → (j ≡ k → ⊥) → (outcome (joins k m room) kiosks).kiosks j ≡ kiosks j
  unfolding outcome
  joins_others j f = with_node_there k j (joined (kiosks k) (kiosks m) room image_limit).node kiosks f

-- ---- a refused call

-- one call: its number is that of its questions
pub number_by : (o : Outcome) (n : ℕ) (kiosks : ℕ → Node) → (n ≡ 0 → o.number ≡ 0) → ((n ≡ 0 → ⊥) → o ≡ refusal n kiosks) → o.number ≡ n
number_by o n kiosks d f = ⊎_elim {C = o.number ≡ n} (λ (z : n ≡ 0). d z ∙ sym z) (λ (g : n ≡ 0 → ⊥). numbered (f g)) (eq_or_ne n 0)

-- one call: it is refused just where its questions say so
refused_by : (o : Outcome) (n : ℕ) (kiosks : ℕ → Node) → (n ≡ 0 → o.number ≡ 0) → ((n ≡ 0 → ⊥) → o ≡ refusal n kiosks) →
    (o.number ≡ 0 → ⊥) → (o.kiosks ≡ kiosks) × (o.claims ≡ [])
refused_by o n kiosks d f h =
    ⊎_elim
    {C = (o.kiosks ≡ kiosks) × (o.claims ≡ [])}
    (λ (z : n ≡ 0). absurd (h (d z)))
    (λ (z : n ≡ 0 → ⊥). (ap (λ (x : Outcome). x.kiosks) (f z), ap (λ (x : Outcome). x.claims) (f z)))
    (eq_or_ne n 0)

-- "A refused call is an event that changes no kiosk and makes no claim."
pub outcome_refused : (e : Event) (kiosks : ℕ → Node) → ((outcome e kiosks).number ≡ 0 → ⊥) →
    ((outcome e kiosks).kiosks ≡ kiosks) × ((outcome e kiosks).claims ≡ [])
outcome_refused (enters k x) kiosks =
    refused_by (outcome (enters k x) kiosks) (first_no (enter_questions (kiosks k).store x)) kiosks
    (λ z. numbered (enters_done k x kiosks z)) (enters_refused k x kiosks)
outcome_refused (makes k i j) kiosks =
    refused_by (outcome (makes k i j) kiosks) (first_no (make_questions (kiosks k).store i j)) kiosks
    (λ z. numbered (makes_done k i j kiosks z)) (makes_refused k i j kiosks)
outcome_refused (delivers k To.reply c) kiosks =
    refused_by (outcome (delivers k To.reply c) kiosks) (first_no (reply_questions (kiosks k).store c)) kiosks
    (λ z. numbered (replies_done k c kiosks z)) (replies_refused k c kiosks)
outcome_refused (delivers k To.table c) kiosks =
    refused_by (outcome (delivers k To.table c) kiosks) (first_no (take_questions (kiosks k) c)) kiosks
    (λ z. numbered (takes_done k c kiosks z)) (takes_refused k c kiosks)
outcome_refused (beats k lent) kiosks =
    refused_by (outcome (beats k lent) kiosks) (first_no (beat_questions (kiosks k) lent)) kiosks
    (λ z. numbered (beats_done k lent kiosks z)) (beats_refused k lent kiosks)
outcome_refused (meets k m lent) kiosks =
    refused_by (outcome (meets k m lent) kiosks) (first_no (round_questions (kiosks k).store (kiosks m).store (length lent))) kiosks
    (λ z. numbered (meets_done k m lent kiosks z)) (meets_refused k m lent kiosks)
outcome_refused (joins k m room) kiosks =
    refused_by (outcome (joins k m room) kiosks) (joining k m room kiosks) kiosks
    (λ z. numbered (joins_done k m room kiosks z)) (joins_refused k m room kiosks)

-- a refused call enters no key
pub entered_by_refused : (e : Event) (n : ℕ) → (n ≡ 0 → ⊥) → entered_by e n ≡ []
entered_by_refused (enters k x) n f = rw (ne_eqb n 0 f)
entered_by_refused (makes k i j) n f = refl
entered_by_refused (delivers k to c) n f = refl
entered_by_refused (beats k lent) n f = refl
entered_by_refused (meets k m lent) n f = refl
entered_by_refused (joins k m room) n f = refl
