-- What the public calls return, one law a return path: `taken`, `beaten`, `beaten_lent`, `met`, `met_lent` and `met_words` of Call. In order, for
-- taking, a beat and a round: carried out; refused; of taking and a round before that, what it says that every question was answered yes. Then: a taken
-- node and a beaten one are in order; what a round returns is in order, its count is at most twice the keys of the union, and nothing waits at its end.
-- Assumes nothing.
use Prim.Native.Nat.{ℕ, ◌+◌, ◌*◌, ◌≤◌, ◌<◌}
use mathlib.Core.Bool.{true}
use mathlib.Core.List.{List, [], ◌∷◌, ◌++◌, Memᴰ}
use mathlib.Core.Logic.{⊎_elim}
use mathlib.Core.Path.{◌≡◌, sym, ap, ◌∙◌, subst}
use native.Mathlib.Omega.{arith}
use borrow.Author.Tests.{ltb-true, leb-true, le-leb}
use lib.ListN.{length, length-take}
use Rattle.keys.specs.declared.store.Store.{Store}
use Rattle.keys.specs.Store.{limit, keys_of, store_of, in_order, insert_all}
use Rattle.keys.specs.Place.{put_at}
use Rattle.keys.proofs.Tests.{eq_or_ne}
use Rattle.keys.proofs.StoreLaws.{in_order_count, in_order_rising}
use Rattle.claims.specs.declared.claim.Claim.{Claim}
use Rattle.claims.specs.Question.{first_no, question1, question6, claim_questions}
use Rattle.claims.specs.Reply.{ends, hear}
use Rattle.claims.specs.Call.{judged}
use Rattle.claims.proofs.QuestionLaws.{first_no_yes, first_no_zero, first_no_append_zero, first_no_front, first_no_rest, settle_done, settle_refused}
use Rattle.claims.proofs.QuestionLaws.{claim_questions_numbered, judged_first_no}
use Rattle.claims.proofs.ReplyLaws.{hear_rising, hear_old, hear_ends, hear_fits}
use Rattle.rule.specs.declared.node.Node.{Node}
use Rattle.rule.specs.declared.delivery.Delivery.{Delivery}
use Rattle.rule.specs.Answer.{Met}
use Rattle.rule.specs.Table.{table_limit, table_with, serve, sending}
use Rattle.rule.specs.Node.{node_keys, pending_of, node_of}
use Rattle.rule.specs.Round.{union, transcript}
use Rattle.rule.specs.Question.{node_question1, question8, question9}
use Rattle.rule.specs.Call.{take_questions, taken, claim_words, beat_questions, beaten, beaten_lent}
use Rattle.rule.specs.Call.{round_questions, round_by, met, met_lent, delivery_words, records_in, met_words}
use Rattle.rule.proofs.TableLaws.{climbs_table_with, climbs_kept, table_with_mem, kept_mem, length_table_with, length_kept}
use Rattle.rule.proofs.NodeLaws.{Fits, fits_sub, Ordered, ordered_node_in_order, node_in_order_ordered, ordered_node_of}
use Rattle.rule.proofs.RoundLaws.{Rounded, rounded}

-- ---- taking

-- questions 2 to 5 and 16 of a claim, then 6 of its ends: as taking asks, and a reply
pub claim_questions_6 : (c : Claim) (l : List ℕ) → first_no (claim_questions c ++ (question6 (ends c) l ∷ [])) ≡ 0 →
    (first_no (claim_questions c) ≡ 0) × (length (insert_all (ends c) l) ≤ limit)
claim_questions_6 c l h =
    let q = question6 (ends c) l in
    let a : first_no (q ∷ []) ≡ 0 = first_no_rest (claim_questions c) (q ∷ []) (claim_questions_numbered c) h in
    let b : length (insert_all (ends c) l) < limit + 1 = ltb-true (length (insert_all (ends c) l)) (limit + 1) (first_no_zero q [] (omega arith) a).0 in
    (first_no_front (claim_questions c) (q ∷ []) h, omega arith)

pub record TakeYes (n : Node) (c : Claim) : Type 0 where
  pub node : Ordered n
  pub judged : judged c ≡ 0
  pub room : length (insert_all (ends c) (node_keys n)) ≤ limit

pub take_questions_yes : (n : Node) (c : Claim) → first_no (take_questions n c) ≡ 0 → TakeYes n c
take_questions_yes n c h =
    let a = first_no_zero (node_question1 n) (claim_questions c ++ (question6 (ends c) (node_keys n) ∷ [])) (omega arith) h in
    let b = claim_questions_6 c (node_keys n) a.1 in
    record { node = node_in_order_ordered n a.0; judged = judged_first_no c ∙ b.0; room = b.1 }

-- what is left to ask of a claim that passes 2 to 5 and 16, of a node in order, is 6
pub take_questions_6 : (n : Node) (c : Claim) → Ordered n → judged c ≡ 0 → first_no (take_questions n c) ≡ first_no (question6 (ends c) (node_keys n) ∷ [])
take_questions_6 n c o pass =
    first_no_yes (node_question1 n) (claim_questions c ++ (question6 (ends c) (node_keys n) ∷ [])) (ordered_node_in_order n o)
    ∙ first_no_append_zero (claim_questions c) (question6 (ends c) (node_keys n) ∷ []) (claim_questions_numbered c) (sym (judged_first_no c) ∙ pass)

pub taken_done : (n : Node) (c : Claim) → first_no (take_questions n c) ≡ 0 →
    taken n c ≡ record { number = 0; node = node_of (hear c (node_keys n)) (table_with c (pending_of n)) }
unfolding taken
taken_done n c h = settle_done _ _ (λ x. record { number = x; node = n }) h

pub taken_refused : (n : Node) (c : Claim) → (first_no (take_questions n c) ≡ 0 → ⊥) → taken n c ≡ record { number = first_no (take_questions n c); node = n }
unfolding taken
taken_refused n c f = settle_refused _ _ (λ x. record { number = x; node = n }) f

-- ---- a beat

pub beaten_done : (n : Node) (lent : List ℕ) → first_no (beat_questions n lent) ≡ 0 →
    beaten n lent ≡ record
    { number = 0; node = node_of (node_keys n) (serve (node_keys n) (pending_of n)).kept; written = length (sending (node_keys n) (pending_of n)) }
unfolding beaten
beaten_done n lent h = settle_done _ _ (λ x. record { number = x; node = n; written = 0 }) h

pub beaten_refused : (n : Node) (lent : List ℕ) → (first_no (beat_questions n lent) ≡ 0 → ⊥) →
    beaten n lent ≡ record { number = first_no (beat_questions n lent); node = n; written = 0 }
unfolding beaten
beaten_refused n lent f = settle_refused _ _ (λ x. record { number = x; node = n; written = 0 }) f

pub beaten_lent_done : (n : Node) (lent : List ℕ) → first_no (beat_questions n lent) ≡ 0 →
    beaten_lent n lent ≡ put_at lent 0 (claim_words (sending (node_keys n) (pending_of n)))
unfolding beaten_lent
beaten_lent_done n lent h = settle_done _ _ (λ x. lent) h

-- ---- a round

pub record RoundYes (s t : Store) (records : ℕ) : Type 0 where
  pub left : in_order s ≡ true
  pub right : in_order t ≡ true
  pub fits : length (union (keys_of s) (keys_of t)) ≤ limit
  pub room : 2 * length (union (keys_of s) (keys_of t)) ≤ records

pub round_questions_yes : (s t : Store) (n : ℕ) → first_no (round_questions s t n) ≡ 0 → RoundYes s t n
round_questions_yes s t n h =
    let q8 = question8 (keys_of s) (keys_of t) in
    let q9 = question9 (keys_of s) (keys_of t) n in
    let a = first_no_zero (question1 s) (question1 t ∷ q8 ∷ q9 ∷ []) (omega arith) h in
    let b = first_no_zero (question1 t) (q8 ∷ q9 ∷ []) (omega arith) a.1 in
    let c = first_no_zero q8 (q9 ∷ []) (omega arith) b.1 in
    let d = first_no_zero q9 [] (omega arith) c.1 in
    record {
      left = a.0;
      right = b.0;
      fits = leb-true (length (union (keys_of s) (keys_of t))) limit c.0;
      room = leb-true (2 * length (union (keys_of s) (keys_of t))) n d.0;
    }

pub yes_round_questions : (s t : Store) (n : ℕ) → RoundYes s t n → first_no (round_questions s t n) ≡ 0
yes_round_questions s t n y =
    rw (
      y.left,
      y.right,
      le-leb (length (union (keys_of s) (keys_of t))) limit y.fits,
      le-leb (2 * length (union (keys_of s) (keys_of t))) n y.room,
    )

pub met_done : (s t : Store) (n : ℕ) → first_no (round_questions s t n) ≡ 0 →
    met s t n
    ≡ record {
      number = 0;
      left = store_of (round_by s t).stores.left;
      right = store_of (round_by s t).stores.right;
      deliveries = length (round_by s t).lines;
    }
unfolding met
met_done s t n h = settle_done _ _ (λ x. record { number = x; left = s; right = t; deliveries = 0 }) h

pub met_refused : (s t : Store) (n : ℕ) → (first_no (round_questions s t n) ≡ 0 → ⊥) →
    met s t n ≡ record { number = first_no (round_questions s t n); left = s; right = t; deliveries = 0 }
unfolding met
met_refused s t n f = settle_refused _ _ (λ x. record { number = x; left = s; right = t; deliveries = 0 }) f

-- a round that answers 0 was not refused
pub met_zero : (s t : Store) (n : ℕ) → (met s t n).number ≡ 0 → first_no (round_questions s t n) ≡ 0
met_zero s t n h =
    ⊎_elim
    {C = first_no (round_questions s t n) ≡ 0}
    (λ (z : first_no (round_questions s t n) ≡ 0). z)
    (λ (f : first_no (round_questions s t n) ≡ 0 → ⊥). absurd (f (sym (ap (λ (m : Met). m.number) (met_refused s t n f)) ∙ h)))
    (eq_or_ne (first_no (round_questions s t n)) 0)

pub met_lent_done : (s t : Store) (lent : List Delivery) → first_no (round_questions s t (length lent)) ≡ 0 →
    met_lent s t lent ≡ put_at lent 0 (transcript (round_by s t))
unfolding met_lent
met_lent_done s t lent h = settle_done _ _ (λ x. lent) h

pub met_lent_refused : (s t : Store) (lent : List Delivery) → (first_no (round_questions s t (length lent)) ≡ 0 → ⊥) → met_lent s t lent ≡ lent
unfolding met_lent
met_lent_refused s t lent f = settle_refused _ _ (λ x. lent) f

pub met_words_done : (s t : Store) (lent : List ℕ) → first_no (round_questions s t (records_in lent)) ≡ 0 →
    met_words s t lent ≡ put_at lent 0 (delivery_words (transcript (round_by s t)))
unfolding met_words
met_words_done s t lent h = settle_done _ _ (λ x. lent) h

pub met_words_refused : (s t : Store) (lent : List ℕ) → (first_no (round_questions s t (records_in lent)) ≡ 0 → ⊥) → met_words s t lent ≡ lent
unfolding met_words
met_words_refused s t lent f = settle_refused _ _ (λ x. lent) f

-- ---- what comes out is in order

pub ordered_taken : (n : Node) (c : Claim) → TakeYes n c → Ordered (node_of (hear c (node_keys n)) (table_with c (pending_of n)))
ordered_taken n c y =
    let l : List ℕ = node_keys n in
    ordered_node_of (hear c l) (table_with c (pending_of n)) (hear_rising c l (in_order_rising n.store y.node.store)) (hear_fits c l y.room)
    (length_table_with c (pending_of n)) (climbs_table_with c (pending_of n) y.node.table)
    (λ d m.
    ⊎_elim
    {C = Fits d (hear c l)}
    (λ (e : d ≡ c). subst (λ (x : Claim). Fits x (hear c l)) (sym e) (record { passes = y.judged; held = hear_ends c l }))
    (λ (o : Memᴰ d (pending_of n)). fits_sub d l (hear c l) (hear_old c l) (y.node.fit d o))
    (table_with_mem c (pending_of n) d m))

pub length_node_keys : (n : Node) → Ordered n → length (node_keys n) ≤ limit
length_node_keys n o = rw (length-take n.store.count n.store.keys) (omega (arith, in_order_count n.store o.store))

pub ordered_beaten : (n : Node) → Ordered n → length (pending_of n) ≤ table_limit → Ordered (node_of (node_keys n) (serve (node_keys n) (pending_of n)).kept)
ordered_beaten n o h =
    let l : List ℕ = node_keys n in
    ordered_node_of l (serve l (pending_of n)).kept (in_order_rising n.store o.store) (length_node_keys n o)
    (let z : length (serve l (pending_of n)).kept ≤ length (pending_of n) = length_kept l (pending_of n) in omega arith)
    (climbs_kept l (pending_of n) o.table)
    (λ d m. o.fit d (kept_mem l (pending_of n) d m))

pub length_pending_of : (n : Node) → Ordered n → length (pending_of n) ≤ table_limit
length_pending_of n o = rw (length-take n.pending.count n.pending.claims) (omega (arith, o.count))

-- the rule's facts, of a round that was not refused
pub round_yes_rounded : (s t : Store) (n : ℕ) → RoundYes s t n → Rounded (keys_of s) (keys_of t)
round_yes_rounded s t n y = rounded (keys_of s) (keys_of t) (in_order_rising s y.left) (in_order_rising t y.right) y.fits

-- the count that a round returns, refused or not, whatever the two stores hold
pub met_bounded : (s t : Store) (n : ℕ) → (met s t n).deliveries ≤ 2 * length (union (keys_of s) (keys_of t))
met_bounded s t n =
    ⊎_elim
    {C = (met s t n).deliveries ≤ 2 * length (union (keys_of s) (keys_of t))}
    (λ (h : first_no (round_questions s t n) ≡ 0). rw (met_done s t n h) (round_yes_rounded s t n (round_questions_yes s t n h)).bound)
    (λ (f : first_no (round_questions s t n) ≡ 0 → ⊥). rw (met_refused s t n f) (omega arith))
    (eq_or_ne (first_no (round_questions s t n)) 0)

-- a round that was not refused delivered until none waited, in both halves
pub met_waiting : (s t : Store) (n : ℕ) → (met s t n).number ≡ 0 → (round_by s t).waiting ≡ []
met_waiting s t n h = (round_yes_rounded s t n (round_questions_yes s t n (met_zero s t n h))).ends
