-- The beat (src/beats.rt): one law for each way that the code goes, over the definitions of specs/Lent. What these mean is in LentLaws. In order:
-- `write_answer`, `serve_claim`, the loop of `serve_table`, `write_whole`, `beat_in`, `beat`. Assumes nothing.
use mathlib.Core.Path.{◌≡◌, refl, sym, ◌∙◌, ap}
use mathlib.Core.Bool.{Bool, true, false, cond, not}
use mathlib.Core.List.{List, [], ◌∷◌, ◌++◌}
use Prim.Native.Nat.{ℕ, ◌+◌, ◌*◌, ◌-◌, ◌/◌, ◌≤◌, ◌<◌}
use native.Mathlib.Nat.{add-zero}
use native.Mathlib.Numerals.{add-one}
use native.Mathlib.Omega.{arith}
use borrow.Author.Tests.{le-leb, lt-leb, eq-eqb, ne_eqb, eqb-false, not-true, not-false}
use lib.Dec.{eqb}
use lib.ListN.{length, take, drop, get_or, set, length-append, length-take, drop_of_length-le}
use lib.Seq.{sets, drop-cons}
use Rattle.keys.specs.Lent.{store_by}
use Rattle.keys.specs.declared.store.Store.{Store}
use Rattle.keys.specs.Store.{Sized}
use Rattle.keys.proofs.PlaceLaws.{put_at_nil, put_at_zero, sets_put_at}
use Rattle.claims.specs.declared.claim.Claim.{Claim}
use Rattle.std.specs.Prelude.{Result, Ok, Err}
use Rattle.std.specs.Result.{result_unwrap_or}
use Rattle.claims.specs.declared.refusal.Refusal.{Refusal}
use Rattle.claims.specs.Answer.{Answer, made_by}
use Rattle.claims.specs.Claim.{no_claim}
use Rattle.claims.specs.Reply.{claims_of, matches}
use Rattle.claims.specs.Lent.{make_in, answer_in}
use Rattle.claims.specs.Words.{claim_width, put_claim}
use Rattle.rule.specs.declared.node.Node.{Node}
use Rattle.rule.specs.declared.node.Table.{Table}
use Rattle.rule.specs.Answer.{Beaten}
use Rattle.rule.specs.Table.{table_limit, beat_replies, beat_limit, remains, Served}
use Rattle.rule.specs.Node.{blanks, node_in_order}
use Rattle.rule.specs.Call.{beaten, beaten_lent}
use Rattle.rule.proofs.TableLaws.{length_claims_of}
use Rattle.rule.proofs.NodeLaws.{length_blanks, drop_blanks, node_in_order_ordered}
use Rattle.nodes.specs.Lent.{node_by}
use Rattle.beats.specs.declared.beats.Turn.{Turn}
use Rattle.beats.specs.Lent.{serve_in, whole_in, sending_in, wrote_at, Wrote, sent_for, left_after, Turned, kept_with, ServedAt}
use Rattle.beats.specs.Lent.{Kept, beaten_with, unbeaten, beat_in, beat_in_lent, BeatsIn}
use Rattle.beats.proofs.LentLaws.{put_claim_wrote_at, wrote_at_append, length_wrote_at, length_whole_in, turn_of, serve_by_none, serve_by_turn}
use Rattle.beats.proofs.LentLaws.{beat_in_beaten, beat_in_lent_beaten_lent}

-- ---- `write_answer`

wrote_nothing : (at : ℕ) (lent : List ℕ) → Wrote at [] lent at lent
wrote_nothing at lent = record { place = sym (add-zero at); words = sym (put_at_nil lent (claim_width * at)) }

-- by what the answer is found to be
module _ (a b : Answer) (is : a ≡ b) (at : ℕ) (lent : List ℕ) where
  pub wrote_none : claims_of b ≡ [] → Wrote at (claims_of a) lent at lent
  wrote_none e = rw (is, e) (wrote_nothing at lent)

  module _ (room : claim_width * (at + 2) ≤ length lent) where
    pub wrote_one : (c : Claim) → claims_of b ≡ c ∷ [] → (after : List ℕ) → after ≡ put_claim lent (claim_width * at) c → Wrote at (claims_of a) lent (at + 1) after
    wrote_one c e after f = rw (is, e) (record { place = refl; words = f ∙ put_claim_wrote_at at c lent (omega arith) })

    pub wrote_two : (c d : Claim) → claims_of b ≡ c ∷ d ∷ [] → (half after : List ℕ)
        → half ≡ put_claim lent (claim_width * at) c → after ≡ put_claim half (claim_width * (at + 1)) d → Wrote at (claims_of a) lent (at + 2) after
    wrote_two c d e half after f g =
        let first : half ≡ wrote_at at (c ∷ []) lent = f ∙ put_claim_wrote_at at c lent (omega arith) in
        let same : length half ≡ length lent = ap length first ∙ length_wrote_at at (c ∷ []) lent (omega arith) in
        let second : after ≡ wrote_at (at + 1) (d ∷ []) half = g ∙ put_claim_wrote_at (at + 1) d half (omega arith) in
        rw (is, e) (record {
          place = refl;
          words = second ∙ (ap (λ (l : List ℕ). wrote_at (at + 1) (d ∷ []) l) first ∙ sym (wrote_at_append at (c ∷ []) (d ∷ []) lent (omega arith)));
        })

-- ---- `serve_claim`

-- a reply that is used up is two claims at most; where none is, nothing is sent
sent_for_few : (n : ℕ) (a : Answer) {left : ℕ} → left ≡ left_after n a → length (sent_for n a) + 2 * left ≤ 2 * n
sent_for_few n a e = rw e (go (matches a) (eqb n 0) refl)
  where
    go : (s t : Bool) → eqb n 0 ≡ t → length (cond s [] (cond t [] (claims_of a))) + 2 * cond s n (cond t n (n - 1)) ≤ 2 * n
    go true t f = omega arith
    go false true f = omega arith
    go false false f = let some : n ≡ 0 → ⊥ = eqb-false n 0 f in omega (arith, length_claims_of a)

module _ (at n : ℕ) (a : Answer) (lent : List ℕ) {matched : Bool} (told : matched ≡ matches a) where
  pub turn_matched : matched ≡ true → Turned at n a lent (record { stays = false; left = n; written = at }) lent
  turn_matched e = record { wrote = rw (← told, e) (wrote_nothing at lent); stayed = rw (← told, e); left = rw (← told, e) }

  pub turn_waits : matched ≡ false → n ≡ 0 → Turned at n a lent (record { stays = true; left = n; written = at }) lent
  turn_waits e f = record {
    wrote = rw (← told, e, eq-eqb n 0 f) (wrote_nothing at lent);
    stayed = rw (← told, e, eq-eqb n 0 f);
    left = rw (← told, e, eq-eqb n 0 f);
  }

  pub turn_told : matched ≡ false → (n ≡ 0 → ⊥) → {stays : Bool} → stays ≡ remains a → {next : ℕ} {after : List ℕ} → Wrote at (claims_of a) lent next after
      → Turned at n a lent (record { stays = stays; left = n - 1; written = next }) after
  turn_told e f s w = record {
    wrote = rw (← told, e, ne_eqb n 0 f) w;
    stayed = rw (← told, e, ne_eqb n 0 f) s;
    left = rw (← told, e, ne_eqb n 0 f);
  }

-- ---- `serve_table`

-- a table written over blanks
sets_blanks : (t : List Claim) → length t ≤ table_limit → sets (blanks table_limit) 0 t ≡ t ++ blanks (table_limit - length t)
sets_blanks t h =
    sets_put_at (blanks table_limit) 0 t (omega (arith, length_blanks table_limit))
    ∙ rw put_at_zero (ap (λ (l : List Claim). t ++ l) (drop_blanks (length t) table_limit))

-- A store serves the first `pending` claims of a table, and writes what is sent from the place `at` on.
module _ (s : Store) (table : List Claim) (pending at : ℕ) (lent₀ : List ℕ) where
  -- the claims that are left from i on, served
  abbrev rest : ℕ → ℕ → Served
  rest left i = serve_in s left (drop i (take pending table))

  -- all of them, with the replies of a beat
  abbrev every : Served
  every = rest beat_replies 0

  -- Before claim i, with so many replies left, n claims kept and the place `next` to write to: what is left computes what comes out, and there are words for it.
  pub record Left (i left next : ℕ) (lent : List ℕ) (n : ℕ) (kept : List Claim) : Type 0 where
    pub passed : i ≤ length (take pending table)
    pub few : n ≤ i
    pub long : length lent ≡ length lent₀
    pub room : claim_width * (next + 2 * left) ≤ length lent
    pub words : wrote_at next (rest left i).sent lent ≡ wrote_at at every.sent lent₀
    pub written : next + length (rest left i).sent ≡ at + length every.sent
    pub places : sets kept n (rest left i).kept ≡ sets (blanks table_limit) 0 every.kept
    pub stayed : n + length (rest left i).kept ≡ length every.kept

  pub left_all : claim_width * (at + 2 * beat_replies) ≤ length lent₀ → Left 0 beat_replies at lent₀ 0 (blanks table_limit)
  left_all h = record {
    passed = omega arith;
    few = omega arith;
    long = refl;
    room = omega arith;
    words = refl;
    written = refl;
    places = refl;
    stayed = omega arith;
  }

  module _ {i left next : ℕ} {lent : List ℕ} {n : ℕ} {kept : List Claim} (before : Left i left next lent n kept) where
    -- a turn: claim i gets its answer, and is served by it
    module _ (inside : i < length (take pending table)) {a : Answer} (answered : a ≡ answer_in s (get_or (take pending table) i no_claim)) {turn : Turn} {lent' : List ℕ}
        (turned : Turned next left a lent turn lent') where
      abbrev c : Claim
      c = get_or (take pending table) i no_claim

      -- the claims behind it, served with the replies that are left then
      abbrev behind : Served
      behind = rest turn.left (i + 1)

      more : rest left i ≡ turn_of left a c behind
      more =
          let e : drop i (take pending table) ≡ c ∷ drop (i + 1) (take pending table)
          = rw (add-one i) (drop-cons (take pending table) i no_claim inside) in
          rw (e, turned.left, answered) (serve_by_turn (answer_in s) left c (drop (i + 1) (take pending table)))

      sent_is : (rest left i).sent ≡ sent_for left a ++ behind.sent
      sent_is = ap (λ (x : Served). x.sent) more

      -- whether it stays or leaves
      on : {n' : ℕ} {kept' : List Claim} → n' ≤ i + 1 → sets kept' n' behind.kept ≡ sets kept n (rest left i).kept
          → n' + length behind.kept ≡ n + length (rest left i).kept → Left (i + 1) turn.left turn.written lent' n' kept'
      on m t k =
          let few : length (sent_for left a) + 2 * turn.left ≤ 2 * left = sent_for_few left a turned.left in
          let fits : claim_width * (next + length (sent_for left a)) ≤ length lent = omega (arith, before.room) in
          let wrote = turned.wrote in
          let same : length lent' ≡ length lent = ap length wrote.words ∙ length_wrote_at next (sent_for left a) lent fits in
          let place = wrote.place in
          record {
            passed = omega arith;
            few = m;
            long = same ∙ before.long;
            room = omega (arith, before.room);
            words = rw (wrote.place, wrote.words)
                (sym (wrote_at_append next (sent_for left a) behind.sent lent fits)
                ∙ (ap (λ (cs : List Claim). wrote_at next cs lent) (sym sent_is)
                ∙ before.words));
            written = omega (arith, before.written, ap length sent_is, length-append (sent_for left a) behind.sent);
            places = t ∙ before.places;
            stayed = k ∙ before.stayed;
          }

      kept_is : {t : Bool} → turn.stays ≡ t → (rest left i).kept ≡ cond t (c ∷ behind.kept) behind.kept
      kept_is e = ap (λ (x : Served). x.kept) more ∙ ap (λ (b : Bool). cond b (c ∷ behind.kept) behind.kept) (sym turned.stayed ∙ e)

      pub left_stays : turn.stays ≡ true → Left (i + 1) turn.left turn.written lent' (n + 1) (set kept n c)
      left_stays e =
          let k = kept_is e in
          on (omega (arith, before.few)) (rw (add-one n) (ap (λ (l : List Claim). sets kept n l) (sym k))) (omega (arith, ap length k))

      pub left_leaves : turn.stays ≡ false → Left (i + 1) turn.left turn.written lent' n kept
      left_leaves e =
          let k = kept_is e in
          on (omega (arith, before.few)) (ap (λ (l : List Claim). sets kept n l) (sym k)) (omega (arith, ap length k))

    -- the end
    pub left_none : pending ≤ table_limit → length (take pending table) ≤ i → ServedAt at (serve_in s beat_replies (take pending table)) lent₀ (record { number = 0; table = kept; count = n; written = next }) lent
    unfolding kept_with
    left_none small past =
        let none : rest left i ≡ record { sent = []; kept = [] } = rw (drop_of_length-le (take pending table) past) (serve_by_none (answer_in s) left) in
        let no_more : (rest left i).sent ≡ [] = ap (λ (x : Served). x.sent) none in
        let none_kept : (rest left i).kept ≡ [] = ap (λ (x : Served). x.kept) none in
        let count_is : n ≡ length every.kept = omega (arith, before.stayed, ap length none_kept) in
        let written_is : next ≡ at + length every.sent = omega (arith, before.written, ap length no_more) in
        let places : kept ≡ every.kept ++ blanks (table_limit - length every.kept)
        = ap (λ (l : List Claim). sets kept n l) (sym none_kept) ∙ (before.places ∙ sets_blanks every.kept (omega (arith, before.few, before.passed, length-take pending table))) in
        record {
          result = λ j. record { number = 0; table = places j; count = count_is j; written = written_is j };
          words = sym (put_at_nil lent (claim_width * next)) ∙ (ap (λ (cs : List Claim). wrote_at next cs lent) (sym no_more) ∙ before.words);
        }

-- ---- `write_whole`

-- a claim that was made, and the claim of zeros where it was refused
unwrap_told : (made : Result Claim Refusal) → result_unwrap_or made no_claim ≡ (made_by made).claim
unwrap_told (Ok c) = refl
unwrap_told (Err r) = refl

module _ (keys sums : List ℕ) (count : ℕ) (lent : List ℕ) where
  pub whole_none : count ≡ 0 → Wrote 0 (whole_in (store_by keys sums count)) lent 0 lent
  unfolding whole_in
  whole_none e = rw (eq-eqb count 0 e) (record { place = refl; words = sym (put_at_nil lent 0) })

  pub whole_one : (count ≡ 0 → ⊥) → (made : Result Claim Refusal) → made_by made ≡ make_in (store_by keys sums count) 0 (count - 1)
      → claim_width ≤ length lent → {whole : Claim} → whole ≡ result_unwrap_or made no_claim → (after : List ℕ) → after ≡ put_claim lent 0 whole
      → Wrote 0 (whole_in (store_by keys sums count)) lent 1 after
  unfolding whole_in
  whole_one f made e room {whole} w after g =
      let told : whole ≡ (made_by made).claim = w ∙ unwrap_told made in
      rw (ne_eqb count 0 f, ← e, ← told) (record { place = refl; words = g ∙ put_claim_wrote_at 0 whole lent (omega arith) })

-- ---- `beat_in`

module _ (keys sums : List ℕ) (held : ℕ) (pending : Table) (lent : List ℕ) where
  -- the node that beats, its table, and how many claims are pending
  abbrev node : Node
  node = node_by keys sums held pending

  abbrev table : List Claim
  table = pending.claims

  abbrev count : ℕ
  count = pending.count

  pub beat_many : table_limit < count → BeatsIn node lent (unbeaten node 1) lent
  unfolding beat_in beat_in_lent
  beat_many h = record { result = rw (lt-leb count table_limit h); words = rw (lt-leb count table_limit h) }

  pub beat_short : count ≤ table_limit → length lent / claim_width < beat_limit → BeatsIn node lent (unbeaten node 15) lent
  unfolding beat_in beat_in_lent
  beat_short h g = record {
    result = rw (le-leb count table_limit h, lt-leb beat_limit (length lent / claim_width) g);
    words = rw (le-leb count table_limit h, lt-leb beat_limit (length lent / claim_width) g);
  }

  module _ (h : count ≤ table_limit) (g : beat_limit ≤ length lent / claim_width) {at : ℕ} {half : List ℕ}
      (whole : Wrote 0 (whole_in (store_by keys sums held)) lent at half) where
    abbrev s : Store
    s = store_by keys sums held

    abbrev served : Served
    served = serve_in s beat_replies (take count table)

    whole_fits : claim_width * (0 + length (whole_in s)) ≤ length lent
    whole_fits = omega (arith, length_whole_in s)

    -- there are words for the replies, after the whole claim
    pub beat_room : claim_width * (at + 2 * beat_replies) ≤ length half
    beat_room =
        let same : length half ≡ length lent = ap length whole.words ∙ length_wrote_at 0 (whole_in s) lent whole_fits in
        omega (arith, whole.place, length_whole_in s)

    pub beat_done : {kept : Kept} {after : List ℕ} → ServedAt at served half kept after → BeatsIn node lent (beaten_with keys sums held kept) after
    unfolding beat_in beat_in_lent
    beat_done {kept} {after} done =
        let place : at ≡ length (whole_in s) = omega (arith, whole.place) in
        let joined : wrote_at at served.sent half ≡ wrote_at 0 (sending_in s (take count table)) lent
        = rw (whole.place, whole.words) (sym (wrote_at_append 0 (whole_in s) served.sent lent whole_fits)) in
        let kept_is : kept ≡ kept_with (length (whole_in s)) served = done.result ∙ ap (λ (m : ℕ). kept_with m served) place in
        record {
          result = rw (le-leb count table_limit h, le-leb beat_limit (length lent / claim_width) g) (ap (beaten_with keys sums held) kept_is);
          words = rw (le-leb count table_limit h, le-leb beat_limit (length lent / claim_width) g)
              (done.words ∙ joined);
        }

-- ---- `beat`

module _ (n : Node) (lent : List ℕ) {ordered : Bool} (told : ordered ≡ node_in_order n) where
  pub beat_1 : not ordered ≡ true → (unbeaten n 1 ≡ beaten n lent) × (lent ≡ beaten_lent n lent)
  unfolding beaten beaten_lent
  beat_1 e = rw (← told, not-true ordered e) (refl, refl)

  pub beat_ordered : not ordered ≡ false → Sized n.store → {r : Beaten} {after : List ℕ} → BeatsIn n lent r after
      → (r ≡ beaten n lent) × (after ≡ beaten_lent n lent)
  beat_ordered e sized beats =
      let o = node_in_order_ordered n (sym told ∙ not-false ordered e) in
      (beats.result ∙ beat_in_beaten n lent sized o, beats.words ∙ beat_in_lent_beaten_lent n lent sized o)
