-- The functions of src/sent.rt, one law for each way that the code goes. In order: the claims that some words are; one frame; the frames; the beat. Assumes
-- nothing.
use Prim.Native.Nat.{ℕ, zero, suc, ◌+◌, ◌-◌, ◌*◌, ◌/◌, ◌≤◌, ◌<◌, min}
use native.Mathlib.Omega.{arith}
use mathlib.Core.Bool.{true}
use mathlib.Core.List.{List, [], ◌∷◌, ◌++◌, append-nil}
use mathlib.Core.Path.{◌≡◌, refl, ap, sym, ◌∙◌}
use borrow.Rule.Slice.PartMut.{put_mid, Post-is}
use borrow.Author.Tests.{eqb-true}
use lib.Dec.{eqb}
use lib.ListN.{length, take, drop, get_or, set, length-append, length-drop, drop_of_length-le, take-append-drop, replicate, length-replicate}
use lib.Seq.{take_all, drop_at, length-take-le}
use Rattle.std.proofs.lemmas.List.{nil_from_length}
use Rattle.std.specs.Prelude.{Result, Ok}
use Rattle.keys.specs.Store.{limit, Sized}
use Rattle.keys.specs.Lent.{store_with, resummed}
use Rattle.keys.proofs.LentLaws.{sized_store_with}
use Rattle.keys.specs.Place.{put_at}
use Rattle.keys.proofs.Tests.{and_left, and_right}
use Rattle.keys.proofs.PlaceLaws.{put_at_zero}
use Rattle.claims.specs.declared.claim.Claim.{Claim}
use Rattle.claims.specs.declared.refusal.Refusal.{Refusal}
use Rattle.claims.specs.Refusal.{number_told, value_told}
use Rattle.claims.specs.Claim.{no_claim}
use Rattle.claims.specs.Call.{judged}
use Rattle.claims.specs.Question.{first_no}
use Rattle.claims.specs.Words.{claim_width, from_words, claim_at}
use Rattle.claims.proofs.QuestionLaws.{passes, judged_first_no}
use Rattle.claims.proofs.WordsLaws.{claim_at_small}
use Rattle.rule.specs.declared.node.Node.{Node}
use Rattle.rule.specs.declared.node.Table.{Table}
use Rattle.rule.specs.Table.{beat_limit, sending}
use Rattle.rule.specs.Node.{blanks, node_keys, pending_of, node_in_order}
use Rattle.rule.proofs.NodeLaws.{length_blanks, drop_blanks}
use Rattle.nodes.specs.Lent.{node_with, node_by}
use Rattle.beats.specs.Lent.{kept_by, beaten_with, beat_in, beat_in_lent, BeatsIn}
use Rattle.wire.specs.Answer.{length_by}
use Rattle.wire.specs.Image.{Shaped}
use Rattle.wire.specs.Frame.{frame_limit, frame_length, frame_bytes, countable, all_pass, four_of, write_frame_questions, write_frame, frame_lent}
use Rattle.wire.specs.Run.{read_run}
use Rattle.wire.proofs.FrameLaws.{countable_of, writable_0, write_frame_0, frame_lent_yes}
use Rattle.wire.proofs.FrameTrips.{length_frame_bytes}
use Rattle.wire.proofs.RunLaws.{length_read_run, set_read_run}
use Rattle.text.proofs.PutLaws.{Left, left_all, left_more, left_none}
use Rattle.host.specs.Frames.{frames_bytes, frames_limit, in_words, claims_in}
use Rattle.host.specs.Known.{FramesGiven, FramesWritten}
use Rattle.host.specs.Call.{node_served, frames_sent}
use Rattle.host.proofs.Beats.{sums_told, node_served_ordered, node_served_shaped, length_frames_sent, beat_number, beat_ran}
use Rattle.host.proofs.SavePaths.{length_by_0}
use Rattle.host.proofs.Words.{get_d_read_run, take_read_run, read_run_part, read_run_front}
use Rattle.host.proofs.FramesLaws.{frames_bytes_turn, frames_bytes_nil}

-- ---- claims that pass

all_pass_get_d : (cs : List Claim) (i : ℕ) → all_pass cs ≡ true → i < length cs → judged (get_or cs i no_claim) ≡ 0
all_pass_get_d [] i p h = absurd (omega arith)
all_pass_get_d (c ∷ cs) zero p h = eqb-true (judged c) 0 (and_left (eqb (judged c) 0) (all_pass cs) p)
all_pass_get_d (c ∷ cs) (suc i) p h = all_pass_get_d cs i (and_right (eqb (judged c) 0) (all_pass cs) p) (omega arith)

all_pass_take : (n : ℕ) (cs : List Claim) → all_pass cs ≡ true → all_pass (take n cs) ≡ true
all_pass_take zero [] p = refl
all_pass_take zero (c ∷ cs) p = refl
all_pass_take (suc n) [] p = refl
all_pass_take (suc n) (c ∷ cs) p =
    rw (and_left (eqb (judged c) 0) (all_pass cs) p) (all_pass_take n cs (and_right (eqb (judged c) 0) (all_pass cs) p))

all_pass_drop : (n : ℕ) (cs : List Claim) → all_pass cs ≡ true → all_pass (drop n cs) ≡ true
all_pass_drop zero cs p = p
all_pass_drop (suc n) [] p = refl
all_pass_drop (suc n) (c ∷ cs) p = all_pass_drop n cs (and_right (eqb (judged c) 0) (all_pass cs) p)

-- ---- the claims that some words are, up to four

module _ (ws : List ℕ) (pass : all_pass (claims_in ws) ≡ true) {i : ℕ} (h : i < length ws / claim_width) where
  -- a claim that passes has a small count
  in_small : (from_words (drop (claim_width * i) ws)).cnt < 65536
  in_small =
      let c = get_or (claims_in ws) i no_claim in
      let e : c ≡ from_words (drop (claim_width * i) ws) = get_d_read_run in_words (length ws / claim_width) i ws no_claim h in
      let j = all_pass_get_d (claims_in ws) i pass (rw length_read_run h) in
      let m : c.cnt ≤ limit = (passes c (sym (judged_first_no c) ∙ j)).at_most in
      let f = ap (λ (d : Claim). d.cnt) e in
      omega arith

  pub in_turn : (lent : List Claim) → i < length lent → {out : List Claim} {x : Claim} → out ≡ put_at lent 0 (read_run in_words i ws)
      → x ≡ claim_at ws (claim_width * i) → set out i x ≡ put_at lent 0 (read_run in_words (i + 1) ws)
  in_turn lent k e f =
      let g : 0 + claim_width * i ≡ claim_width * i = omega arith in
      set_read_run in_words lent ws 0 i k e (f ∙ (claim_at_small ws (claim_width * i) (omega arith) in_small ∙ ap (λ (n : ℕ). from_words (drop n ws)) (sym g)))

-- the places that are lent are those of the claims, and zeros stand past them
pub in_end : (ws : List ℕ) → length ws ≤ claim_width * frame_limit → (none : List Claim) → none ≡ blanks frame_limit → {out : List Claim} {i : ℕ}
    → out ≡ put_at (take (length ws / claim_width) none) 0 (read_run in_words i ws)
    → i ≡ length ws / claim_width → out ++ drop (length ws / claim_width) none ≡ four_of (claims_in ws)
in_end ws few none zeros {out} {i} e f =
    let n = length ws / claim_width in
    let all : length none ≡ frame_limit = ap length zeros ∙ length_blanks frame_limit in
    let many : length (claims_in ws) ≡ n = length_read_run in_words n ws in
    let long : length (take n none) ≡ n = length-take-le n none (omega arith) in
    let past : drop (length (claims_in ws)) (take n none) ≡ [] = drop_of_length-le (take n none) (omega arith) in
    let out_is : out ≡ claims_in ws = e ∙ rw (f, put_at_zero, past, append-nil) refl in
    rw (out_is, zeros, drop_blanks n frame_limit, many) refl

-- ---- one frame, written to the part of the buffer from a place on

module _ (frames : List ℕ) (at n : ℕ) (cs : List Claim) (many : countable n ≡ true) (pass : all_pass (take n cs) ≡ true)
    (room : at + frame_length n ≤ length frames) where
  -- that part, as it is lent
  abbrev part : List ℕ
  part = take (length frames - at) (drop at frames)

  part_is : part ≡ drop at frames
  part_is = take_all (length frames - at) (drop at frames) (omega (arith, length-drop at frames))

  part_yes : first_no (write_frame_questions cs n (length part)) ≡ 0
  part_yes = sym (writable_0 cs n (length part) many pass (rw part_is (omega (arith, length-drop at frames))))

  pub frame_written : {result : Result ℕ Refusal} → length_by result ≡ write_frame cs n (length part) → result ≡ Ok (frame_length n)
  frame_written e = length_by_0 (e ∙ sym (write_frame_0 cs n (length part) part_yes))

  pub frame_length_lem : {result : Result ℕ Refusal} {w : ℕ} → length_by result ≡ write_frame cs n (length part) → result ≡ Ok w → w ≡ frame_length n
  frame_length_lem e f = ap (value_told 0) (sym f ∙ frame_written e)

  pub frame_put : {new : List ℕ} → new ≡ frame_lent cs n part → put_mid at (length frames - at) frames new ≡ put_at frames at (frame_bytes (take n cs))
  unfolding put_at
  frame_put {new} e =
      let bs = frame_bytes (take n cs) in
      let g : new ≡ bs ++ drop (length bs) (drop at frames) = e ∙ (frame_lent_yes cs n part part_yes ∙ rw (put_at_zero, part_is)) in
      let all : length frames ≤ length frames = omega arith in
      let past : drop (length frames) frames ≡ [] = drop_of_length-le frames all in
      rw (Post-is at (length frames) frames (omega arith), past, append-nil) (ap (λ (z : List ℕ). take at frames ++ z) g)

-- ---- the frames: what is left to write, of the claims that the words left are, makes up the whole

pub record Ahead (cs : List Claim) (before frames : List ℕ) (at : ℕ) (ws : List ℕ) : Type 0 where
  pub so : Left before 0 (frames_bytes cs) frames at (frames_bytes (claims_in ws))
  pub pass : all_pass (claims_in ws) ≡ true
  pub whole : length ws ≡ claim_width * (length ws / claim_width)

pub ahead_all : (words : List ℕ) (count : ℕ) (before : List ℕ) → claim_width * count ≤ length words → all_pass (read_run in_words count words) ≡ true
    → Ahead (read_run in_words count words) before before 0 (take (claim_width * count) words)
ahead_all words count before room pass =
    let ws = take (claim_width * count) words in
    let long : length ws ≡ claim_width * count = length-take-le (claim_width * count) words room in
    let many : length ws / claim_width ≡ count = omega arith in
    let same : claims_in ws ≡ read_run in_words count words
    = rw many (sym (read_run_front count ws (drop (claim_width * count) words) long) ∙ ap (read_run in_words count) (take-append-drop (claim_width * count) words)) in
    record { so = rw same (left_all before 0 (frames_bytes (read_run in_words count words))); pass = rw same pass; whole = omega arith }

pub ahead_none : {cs : List Claim} {before frames ws : List ℕ} {at : ℕ} → Ahead cs before frames at ws → length ws ≡ 0 → FramesWritten cs before frames at
ahead_none {cs} {before} {frames} {ws} {at} a h =
    let empty : ws ≡ [] = nil_from_length ws h in
    let none : frames_bytes (claims_in ws) ≡ [] = ap (λ (xs : List ℕ). frames_bytes (claims_in xs)) empty ∙ frames_bytes_nil in
    let (ends, put) = left_none (rw none at a.so) in
    record { size = omega arith; frames = put }

-- the words of the next frame, and those behind them
pub record Chunk (ws four rest : List ℕ) : Type 0 where
  pub parts : ws ≡ four ++ rest
  pub most : length four ≡ min (claim_width * frame_limit) (length ws)
  pub some : 0 < length ws

-- .. as an iterator over chunks of `size` words tells them
pub chunk_of : {size : ℕ} {ws four rest : List ℕ} → size ≡ claim_width * frame_limit
    → (ws ≡ four ++ rest) × (length four ≡ min size (length ws)) × (0 < length ws) → Chunk ws four rest
chunk_of e (parts, most, some) = record { parts = parts; most = most ∙ rw e refl; some = some }

module _ {cs : List Claim} {before frames ws four rest : List ℕ} {at : ℕ} (a : Ahead cs before frames at ws) (k : Chunk ws four rest) where
  -- how many claims they are
  abbrev n : ℕ
  n = length four / claim_width

  abbrev m : ℕ
  m = length ws / claim_width

  lengths : length ws ≡ length four + length rest
  lengths = ap length k.parts ∙ length-append four rest

  pub chunk_few : length four ≤ claim_width * frame_limit
  chunk_few = omega (arith, k.most)

  chunk_whole : length four ≡ claim_width * n
  chunk_whole = omega (arith, k.most, a.whole)

  chunk_some : 0 < n
  chunk_some = omega (arith, k.most, k.some, a.whole)

  pub chunk_countable : countable n ≡ true
  chunk_countable = countable_of n chunk_some (omega (arith, k.most))

  all : length (claims_in ws) ≡ m
  all = length_read_run in_words m ws

  most_is : n ≡ min m frame_limit
  most_is = omega (arith, k.most, a.whole)

  four_is : claims_in four ≡ take n (claims_in ws)
  four_is =
      sym (read_run_front n four rest chunk_whole)
      ∙ (ap (read_run in_words n) (sym k.parts) ∙ sym (take_read_run in_words m n ws (omega (arith, most_is))))

  rest_is : claims_in rest ≡ drop n (claims_in ws)
  rest_is =
      let left : length rest / claim_width ≡ m - n = omega (arith, lengths, chunk_whole, a.whole) in
      let past : drop (claim_width * n) ws ≡ rest = rw k.parts (drop_at four rest (claim_width * n) chunk_whole) in
      let long : length (drop n (claims_in ws)) ≤ m - n = omega (arith, length-drop n (claims_in ws), all) in
      rw left
      (ap (read_run in_words (m - n)) (sym past)
      ∙ (sym (read_run_part in_words m n (m - n) ws (omega (arith, most_is))) ∙ take_all (m - n) (drop n (claims_in ws)) long))

  pub chunk_pass : all_pass (claims_in four) ≡ true
  chunk_pass = rw four_is (all_pass_take n (claims_in ws) a.pass)

  split : frames_bytes (claims_in ws) ≡ frame_bytes (claims_in four) ++ frames_bytes (claims_in rest)
  split =
      frames_bytes_turn (claims_in ws) n (omega (arith, all, most_is, chunk_some)) (rw all most_is)
      ∙ rw (four_is, rest_is) refl

  size : length (frame_bytes (claims_in four)) ≡ frame_length n
  size = length_frame_bytes (claims_in four) ∙ ap (λ (i : ℕ). frame_length i) (length_read_run in_words n four)

  pub chunk_room : length (frames_bytes cs) ≤ length before → at + frame_length n ≤ length frames
  chunk_room fits = omega (arith, ap length split, length-append (frame_bytes (claims_in four)) (frames_bytes (claims_in rest)), size, a.so.ends, a.so.long)

  pub chunk_turn : length (frames_bytes cs) ≤ length before → {after : List ℕ} {next : ℕ} → next ≡ at + frame_length n
      → after ≡ put_at frames at (frame_bytes (claims_in four)) → Ahead cs before after next rest
  chunk_turn fits e f =
      record {
        so = left_more a.so (frame_bytes (claims_in four)) (frames_bytes (claims_in rest)) split (omega (arith, fits)) f (e ∙ ap (λ (i : ℕ). at + i) (sym size));
        pass = rw rest_is (all_pass_drop n (claims_in ws) a.pass);
        whole = omega (arith, lengths, chunk_whole, a.whole);
      }

-- ---- the beat: what it returned, and left in the table and in the words; the sums were worked out over zeros

-- the words before it
abbrev pub blank : List ℕ
blank = replicate (claim_width * beat_limit) 0

-- No question was answered no. Afterwards the node is the one that the beat served, and the words are the claims that it sends.
pub record Beat (node after : Node) (result : Result ℕ Refusal) (words : List ℕ) : Type 0 where
  pub none : number_told result ≡ 0
  pub served : after ≡ node_served node
  pub shaped : Shaped after
  pub ordered : node_in_order after ≡ true
  pub sent : read_run in_words (value_told 0 result) words ≡ sending (node_keys node) (pending_of node)
  pub most : length (frames_sent node) ≤ frames_limit
  pub given : (room : ℕ) → frames_limit ≤ room → FramesGiven words (value_told 0 result) room

module _ (keys : List ℕ) (held : ℕ) (pending : Table) (long : length keys ≡ limit) (ordered : node_in_order (node_with keys held pending) ≡ true)
    (sums : List ℕ) (anew : sums ≡ resummed keys (replicate limit 0) 0 held) where
  -- the node that beats
  abbrev node : Node
  node = node_with keys held pending

  sums_are : sums ≡ (store_with keys held).sums
  sums_are = sums_told keys held sums anew pending long ordered

  same : node_by keys sums held pending ≡ node
  same = ap (λ (x : List ℕ). node_by keys x held pending) sums_are

  module _ (kept : Table) (result : Result ℕ Refusal) (words : List ℕ)
      (beats : BeatsIn (node_by keys sums held pending) blank (beaten_with keys sums held (kept_by kept result)) words) where
    beaten : beaten_with keys sums held (kept_by kept result) ≡ beat_in node blank
    beaten = beats.result ∙ ap (λ (n : Node). beat_in n blank) same

    left : words ≡ beat_in_lent node blank
    left = beats.words ∙ ap (λ (n : Node). beat_in_lent n blank) same

    sized : Sized node.store
    sized = sized_store_with keys held long

    room_is : length blank ≡ claim_width * beat_limit
    room_is = length-replicate {A = ℕ} (claim_width * beat_limit) 0

    pub beat_of : Beat node (node_with keys held kept) result words
    beat_of =
        let ran = beat_ran node ordered sized blank room_is beaten left in
        let served : node_with keys held kept ≡ node_served node = ap (λ (x : List ℕ). node_by keys x held kept) (sym sums_are) ∙ ran.node in
        let most = length_frames_sent node ordered in
        record {
          none = beat_number node ordered sized blank room_is beaten left;
          served = served;
          shaped = rw served (node_served_shaped node ordered);
          ordered = rw served (node_served_ordered node ordered);
          sent = ran.sent;
          most = most;
          given = λ room fits. record { long = ran.room; pass = ran.pass; fits = rw ran.sent (omega (arith, fits, most)) };
        }
