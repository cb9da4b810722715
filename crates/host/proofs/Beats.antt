-- A beat of a node in order, as src/sent.rt runs it on a lent run of words: what it returns, that its claims are read back from the words, pass 13 and fit the
-- frames, and that the node stays in order. Assumes nothing.
use Prim.Native.Nat.{ℕ, ◌*◌, ◌/◌, ◌≤◌}
use native.Mathlib.Omega.{arith}
use mathlib.Core.Bool.{true}
use mathlib.Core.List.{List}
use mathlib.Core.Path.{◌≡◌, ap, ◌∙◌}
use borrow.Author.Tests.{le-leb}
use lib.ListN.{length, drop, replicate, length-replicate}
use Rattle.keys.specs.Store.{limit, Sized, zeros}
use Rattle.keys.specs.Lent.{resummed, store_with}
use Rattle.keys.specs.Place.{put_at}
use Rattle.keys.proofs.StoreLaws.{in_order_rising, in_order_count, length_keys_of}
use Rattle.keys.proofs.PlaceLaws.{length_put_at, put_at_zero}
use Rattle.keys.proofs.SumLaws.{length_resummed}
use Rattle.keys.proofs.LentLaws.{resummed_zeros}
use Rattle.claims.specs.declared.claim.Claim.{Claim}
use Rattle.claims.specs.Question.{first_no}
use Rattle.claims.specs.Words.{claim_width}
use Rattle.rule.specs.declared.node.Node.{Node}
use Rattle.rule.specs.declared.node.Table.{Table}
use Rattle.rule.specs.Answer.{Beaten}
use Rattle.rule.specs.Table.{beat_limit, serve, sending}
use Rattle.rule.specs.Node.{node_keys, pending_of, node_in_order}
use Rattle.rule.specs.Call.{claim_words, beat_questions}
use Rattle.rule.proofs.NodeLaws.{Ordered, node_in_order_ordered, ordered_node_in_order}
use Rattle.rule.proofs.CallLaws.{beaten_done, beaten_lent_done, ordered_beaten, length_node_keys, length_pending_of}
use Rattle.rule.proofs.TableLaws.{length_sending, length_kept}
use Rattle.rule.proofs.Words.{length_claim_words}
use Rattle.nodes.specs.Lent.{node_with}
use Rattle.beats.specs.Lent.{beat_in, beat_in_lent}
use Rattle.beats.proofs.LentLaws.{beat_in_beaten, beat_in_lent_beaten_lent}
use Rattle.wire.specs.Frame.{all_pass}
use Rattle.wire.specs.Run.{read_run}
use Rattle.wire.specs.Image.{Shaped}
use Rattle.host.specs.Frames.{frames_limit, in_words}
use Rattle.host.specs.Call.{node_served, frames_sent}
use Rattle.host.proofs.Fitting.{shaped_node_of}
use Rattle.host.proofs.FramesLaws.{length_frames_bytes, frames_length_limit}
use Rattle.host.proofs.Passing.{sending_passes}
use Rattle.host.proofs.Words.{read_run_claim_words}

-- A beat of a node returned r and left `words` in the run that it was lent: the node after it, and the claims that it sends, which pass 13.
pub record Ran (n : Node) (r : Beaten) (words : List ℕ) : Type 0 where
  pub node : r.node ≡ node_served n
  pub sent : read_run in_words r.written words ≡ sending (node_keys n) (pending_of n)
  pub room : claim_width * r.written ≤ length words
  pub pass : all_pass (read_run in_words r.written words) ≡ true

-- sums worked out over zeros are those of the node's keys, one for each place
module _ (keys : List ℕ) (held : ℕ) (sums : List ℕ) (anew : sums ≡ resummed keys (replicate limit 0) 0 held) where
  pub sums_long : length sums ≡ limit
  sums_long = ap length anew ∙ length_resummed keys (replicate limit 0) 0 held (length-replicate {A = ℕ} limit 0)

  pub sums_told : (pending : Table) → length keys ≡ limit → node_in_order (node_with keys held pending) ≡ true → sums ≡ (store_with keys held).sums
  unfolding zeros
  sums_told pending long e =
      anew ∙ resummed_zeros keys held long (in_order_count (store_with keys held) (node_in_order_ordered (node_with keys held pending) e).store)

module _ (n : Node) (ordered : node_in_order n ≡ true) where
  o : Ordered n
  o = node_in_order_ordered n ordered

  abbrev sent : List Claim
  sent = sending (node_keys n) (pending_of n)

  pub node_served_ordered : node_in_order (node_served n) ≡ true
  node_served_ordered = ordered_node_in_order (node_served n) (ordered_beaten n o (length_pending_of n o))

  pub node_served_shaped : Shaped (node_served n)
  node_served_shaped =
      let fewer = length_kept (node_keys n) (pending_of n) in
      let most = length_pending_of n o in
      shaped_node_of (node_keys n) (serve (node_keys n) (pending_of n)).kept (length_node_keys n o) (omega arith)

  sent_count : length sent ≤ beat_limit
  sent_count = length_sending (node_keys n) (pending_of n)

  pub length_frames_sent : length (frames_sent n) ≤ frames_limit
  length_frames_sent = rw (length_frames_bytes sent) (frames_length_limit (length sent) sent_count)

  -- r and words are what the beat returned and left in the run of words that it was lent
  module _ (sized : Sized n.store) (lent : List ℕ) (room : length lent ≡ claim_width * beat_limit) {r : Beaten} {words : List ℕ}
      (beaten : r ≡ beat_in n lent) (left : words ≡ beat_in_lent n lent) where
    asked : first_no (beat_questions n lent) ≡ 0
    asked = rw (ordered, le-leb beat_limit (length lent / claim_width) (omega arith))

    done : r ≡ record { number = 0; node = node_served n; written = length sent }
    done = beaten ∙ (beat_in_beaten n lent sized o ∙ beaten_done n lent asked)

    pub beat_number : r.number ≡ 0
    beat_number = ap (λ (b : Beaten). b.number) done

    beat_written : r.written ≡ length sent
    beat_written = ap (λ (b : Beaten). b.written) done

    beat_words : words ≡ put_at lent 0 (claim_words sent)
    beat_words = left ∙ (beat_in_lent_beaten_lent n lent sized o ∙ beaten_lent_done n lent asked)

    beat_read : read_run in_words r.written words ≡ sent
    beat_read = rw (beat_written, beat_words, put_at_zero) (read_run_claim_words sent (drop (length (claim_words sent)) lent))

    beat_room : claim_width * r.written ≤ length words
    beat_room =
        let m = length_claim_words sent in
        let k = sent_count in
        rw (beat_written, beat_words, length_put_at lent 0 (claim_words sent) (omega arith)) (omega arith)

    pub beat_ran : Ran n r words
    beat_ran =
        let short : length (node_keys n) ≤ limit = omega (arith, length_keys_of n.store sized.keys o.store, in_order_count n.store o.store) in
        record {
          node = ap (λ (b : Beaten). b.node) done;
          sent = beat_read;
          room = beat_room;
          pass = rw beat_read (sending_passes (node_keys n) (in_order_rising n.store o.store) short (pending_of n) o.fit);
        }
