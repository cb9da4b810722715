-- What the beat of a node whose keys and sums are lent means (specs/Lent): of any content, what a refusal leaves; of a node in order, the rule (Table and Call of
-- `rule`). In order: claims in lent words; the whole claim; a table served claim by claim, and by a store in order; the beat. Assumes nothing.
use mathlib.Core.Path.{◌≡◌, refl, sym, ◌∙◌, ap, ap₂}
use mathlib.Core.Bool.{Bool, true, false, cond}
use mathlib.Core.List.{List, [], ◌∷◌, ◌++◌, Memᴰ}
use Prim.Native.Nat.{ℕ, zero, suc, ◌+◌, ◌*◌, ◌-◌, ◌/◌, ◌≤◌}
use native.Mathlib.Omega.{arith}
use borrow.Author.Tests.{le-leb, lt-ltb, ne_eqb}
use lib.Dec.{leb, eqb}
use lib.ListN.{length, take, drop, length-append}
use Rattle.keys.specs.declared.store.Store.{Store}
use Rattle.keys.specs.Store.{limit, Sized, store_of}
use Rattle.keys.specs.Place.{put_at}
use Rattle.keys.proofs.Rising.{Rising}
use Rattle.keys.proofs.StoreLaws.{in_order_count, in_order_rising, length_keys_of, store_of_keys_of, count_store_of}
use Rattle.keys.proofs.PlaceLaws.{length_put_at, put_at_append}
use Rattle.claims.specs.declared.claim.Claim.{Claim}
use Rattle.claims.specs.Answer.{Answer}
use Rattle.claims.specs.Claim.{claim_of, whole_claim}
use Rattle.claims.specs.Question.{first_no, settle}
use Rattle.claims.specs.Reply.{answer, claims_of, matches}
use Rattle.claims.specs.Lent.{make_in, answer_in}
use Rattle.claims.specs.Words.{claim_width, put_claim}
use Rattle.claims.proofs.QuestionLaws.{settle_kept}
use Rattle.claims.proofs.LentLaws.{make_in_store, answer_in_store}
use Rattle.claims.proofs.WordsLaws.{put_claim_fits}
use Rattle.rule.specs.declared.node.Node.{Node}
use Rattle.rule.specs.Answer.{Beaten}
use Rattle.rule.specs.Table.{table_limit, beat_replies, beat_limit, remains, Served, unmatched, replies_to, asking, serve_by, serve, sending}
use Rattle.rule.specs.Node.{blanks, table_by, pending_of, node_keys, node_of}
use Rattle.rule.specs.Call.{claim_words, beaten, beaten_lent}
use Rattle.rule.proofs.NodeLaws.{Fits, fits_passes, fits_lo, fits_hi, Ordered, ordered_node_in_order}
use Rattle.rule.proofs.Words.{length_claim_words, claim_words_append}
use Rattle.beats.specs.Lent.{serve_in, whole_in, sending_in, sent_for, stays, left_after, wrote_at, kept_with, unbeaten, beat_in_questions, beat_in, beat_in_lent}

-- ---- claims in lent words

-- one claim, where there are words for it
pub put_claim_wrote_at : (at : ℕ) (c : Claim) (lent : List ℕ) → claim_width * (at + 1) ≤ length lent → put_claim lent (claim_width * at) c ≡ wrote_at at (c ∷ []) lent
put_claim_wrote_at at c lent h = put_claim_fits lent (claim_width * at) c (omega arith)

-- claims right after claims
pub wrote_at_append : (at : ℕ) (cs ds : List Claim) (lent : List ℕ) → claim_width * (at + length cs) ≤ length lent
    → wrote_at at (cs ++ ds) lent ≡ wrote_at (at + length cs) ds (wrote_at at cs lent)
wrote_at_append at cs ds lent h =
    let e : claim_width * (at + length cs) ≡ claim_width * at + claim_width * length cs = omega arith in
    rw (claim_words_append, e)
    (sym (put_at_append lent (claim_width * at) (claim_words cs) (claim_words ds) (claim_width * length cs) (length_claim_words cs) (omega arith)))

-- there are as many words as before
pub length_wrote_at : (at : ℕ) (cs : List Claim) (lent : List ℕ) → claim_width * (at + length cs) ≤ length lent → length (wrote_at at cs lent) ≡ length lent
length_wrote_at at cs lent h = length_put_at lent (claim_width * at) (claim_words cs) (omega (arith, length_claim_words cs))

-- ---- the whole claim

-- at most one whole claim
pub length_whole_in : (s : Store) → length (whole_in s) ≤ 1
unfolding whole_in
length_whole_in s = go (eqb s.count 0)
  where
    go : (t : Bool) → length (cond t [] ((make_in s 0 (s.count - 1)).claim ∷ [])) ≤ 1
    go true = omega arith
    go false = omega arith

-- ---- a table served claim by claim

pub serve_by_none : (answers : Claim → Answer) (n : ℕ) → serve_by answers n [] ≡ record { sent = []; kept = [] }
serve_by_none answers zero = refl
serve_by_none answers (suc n) = refl

-- one claim's turn before the others, which are served with the replies that are left
abbrev pub turn_of : ℕ → Answer → Claim → Served → Served
turn_of n a c rest = record { sent = sent_for n a ++ rest.sent; kept = cond (stays n a) (c ∷ rest.kept) rest.kept }

pub serve_by_turn : (answers : Claim → Answer) (n : ℕ) (c : Claim) (cs : List Claim)
    → serve_by answers n (c ∷ cs) ≡ turn_of n (answers c) c (serve_by answers (left_after n (answers c)) cs)
serve_by_turn answers n c cs = go (matches (answers c)) refl n
  where
    go : (b : Bool) → matches (answers c) ≡ b → (n : ℕ) → serve_by answers n (c ∷ cs) ≡ turn_of n (answers c) c (serve_by answers (left_after n (answers c)) cs)
    go true e n = rw e
    go false e zero = rw e
    go false e (suc m) =
        let some : suc m ≡ 0 → ⊥ = λ z. omega arith in
        let fewer : suc m - 1 ≡ m = omega arith in
        rw (e, ne_eqb (suc m) 0 some, fewer) (told (remains (answers c)))
      where
        front : List Claim
        front = take m (unmatched answers cs)

        told : (r : Bool) → ◌≡◌ {A = Served}
            (record {
              sent = claims_of (answers c) ++ replies_to answers front;
              kept = cond r (c ∷ asking answers front) (asking answers front) ++ drop m (unmatched answers cs);
            })
            (record {
              sent = claims_of (answers c) ++ replies_to answers front;
              kept = cond r (c ∷ (asking answers front ++ drop m (unmatched answers cs))) (asking answers front ++ drop m (unmatched answers cs));
            })
        told true = refl
        told false = refl

-- answered alike, a table is served alike
serve_by_same : (answers others : Claim → Answer) (n : ℕ) (t : List Claim) → ((c : Claim) → Memᴰ c t → answers c ≡ others c)
    → serve_by answers n t ≡ serve_by others n t
serve_by_same answers others n [] f = serve_by_none answers n ∙ sym (serve_by_none others n)
serve_by_same answers others n (c ∷ cs) f =
    let same : answers c ≡ others c = f c (Memᴰ.head refl) in
    let rest : serve_by answers (left_after n (answers c)) cs ≡ serve_by others (left_after n (others c)) cs
    = serve_by_same answers others (left_after n (answers c)) cs (λ d i. f d (Memᴰ.tail i)) ∙ ap (λ (a : Answer). serve_by others (left_after n a) cs) same in
    serve_by_turn answers n c cs ∙ ((λ i. turn_of n (same i) c (rest i)) ∙ sym (serve_by_turn others n c cs))

-- ---- the table served by a store in order

whole_in_store : (l : List ℕ) → length l ≤ limit → whole_in (store_of l) ≡ whole_claim l
unfolding whole_in
whole_in_store [] h = rw (count_store_of [])
whole_in_store (k ∷ ks) h =
    let count = count_store_of (k ∷ ks) in
    let some : (store_of (k ∷ ks)).count ≡ 0 → ⊥ = λ e. omega arith in
    let last : (store_of (k ∷ ks)).count - 1 ≡ length ks = omega arith in
    let made : (make_in (store_of (k ∷ ks)) 0 (length ks)).claim ≡ claim_of 0 (length ks) (k ∷ ks)
    = rw (make_in_store (k ∷ ks) h 0 (length ks), le-leb 0 (length ks) (omega arith), lt-ltb (length ks) (suc (length ks)) (omega arith)) in
    rw (ne_eqb (store_of (k ∷ ks)).count 0 some, last, made)

module _ (l : List ℕ) (rise : Rising l) (short : length l ≤ limit) where
  -- a claim whose lo and hi are held is answered by the keys as they are
  answer_in_answer : (c : Claim) → Fits c l → answer_in (store_of l) c ≡ answer c l
  answer_in_answer c f = answer_in_store l short rise c (fits_passes c l f) (fits_lo c l f) (fits_hi c l f)

  serve_in_store : (n : ℕ) (t : List Claim) → ((c : Claim) → Memᴰ c t → Fits c l) → serve_in (store_of l) n t ≡ serve_by (λ (c : Claim). answer c l) n t
  serve_in_store n t f = serve_by_same (answer_in (store_of l)) (λ (c : Claim). answer c l) n t (λ c m. answer_in_answer c (f c m))

  sending_in_store : (t : List Claim) → ((c : Claim) → Memᴰ c t → Fits c l) → sending_in (store_of l) t ≡ sending l t
  sending_in_store t f = ap₂ (λ (w : List Claim) (s : Served). w ++ s.sent) (whole_in_store l short) (serve_in_store beat_replies t f)

-- ---- the beat, of any content

module _ (n : Node) (lent : List ℕ) where
  -- refused: the node is what it was ..
  pub beat_in_kept : ((beat_in n lent).number ≡ 0 → ⊥) → (beat_in n lent).node ≡ n
  unfolding beat_in kept_with
  beat_in_kept = settle_kept (λ (b : Beaten). b.number) (λ (b : Beaten). b.node) _ (unbeaten n) refl (λ x. refl) (first_no (beat_in_questions n lent))

  -- .. and so are the words
  pub beat_in_lent_kept : ((beat_in n lent).number ≡ 0 → ⊥) → beat_in_lent n lent ≡ lent
  unfolding beat_in beat_in_lent kept_with
  beat_in_lent_kept f = rw (ne_eqb (first_no (beat_in_questions n lent)) 0 (λ z. f (rw z)))

-- ---- the beat of a node in order

module _ (n : Node) (lent : List ℕ) (sized : Sized n.store) (o : Ordered n) where
  -- its keys
  abbrev l : List ℕ
  l = node_keys n

  store_is : n.store ≡ store_of l
  store_is = store_of_keys_of n.store sized o.store

  short : length l ≤ limit
  short = omega (arith, length_keys_of n.store sized.keys o.store, in_order_count n.store o.store)

  rise : Rising l
  rise = in_order_rising n.store o.store

  served_is : serve_in n.store beat_replies (pending_of n) ≡ serve l (pending_of n)
  served_is = ap (λ (s : Store). serve_in s beat_replies (pending_of n)) store_is ∙ serve_in_store l rise short beat_replies (pending_of n) o.fit

  sent_is : sending_in n.store (pending_of n) ≡ sending l (pending_of n)
  sent_is = ap (λ (s : Store). sending_in s (pending_of n)) store_is ∙ sending_in_store l rise short (pending_of n) o.fit

  written_is : length (whole_in n.store) + length (serve_in n.store beat_replies (pending_of n)).sent ≡ length (sending l (pending_of n))
  written_is = sym (length-append (whole_in n.store) (serve_in n.store beat_replies (pending_of n)).sent) ∙ ap length sent_is

  pub beat_in_beaten : beat_in n lent ≡ beaten n lent
  unfolding beat_in kept_with beaten node_of
  beat_in_beaten =
      rw (le-leb n.pending.count table_limit o.count, ordered_node_in_order n o)
      (λ i. settle (cond (leb beat_limit (length lent / claim_width)) 0 15)
      (record {
        number = 0;
        node = record {
          store = store_is i;
          pending = table_by ((served_is i).kept ++ blanks (table_limit - length (served_is i).kept)) (length (served_is i).kept);
        };
        written = written_is i;
      })
      (unbeaten n))

  pub beat_in_lent_beaten_lent : beat_in_lent n lent ≡ beaten_lent n lent
  unfolding beat_in_lent beaten_lent
  beat_in_lent_beaten_lent =
      rw (le-leb n.pending.count table_limit o.count, ordered_node_in_order n o)
      (λ i. settle (cond (leb beat_limit (length lent / claim_width)) 0 15) (put_at lent 0 (claim_words (sent_is i))) (λ x. lent))
