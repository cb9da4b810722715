-- What the daemon is given back is what the next call takes, over the definitions that the contracts of the host calls cite, for images and frames of bytes.
-- A call that was not refused returned a length, `pos n`; then the image that it wrote is read as exactly the node that the rule gives, by the next host call
-- too, and each frame of a beat as exactly its claims. The lemmas come first, the theorems last. Assumes nothing.
use Prim.Native.Nat.{ℕ, zero, suc, ◌^◌, ◌<◌}
use native.Mathlib.Omega.{arith}
use mathlib.Core.Bool.{true}
use mathlib.Core.List.{List, [], ◌∷◌, ◌++◌, Memᴰ, flatten}
use mathlib.Core.Logic.{⊎_elim}
use mathlib.Core.Path.{◌≡◌, refl, sym, ◌∙◌, ap}
use lib.IntN.{pos}
use lib.ListN.{length, take, drop}
use lib.Seq.{take-append_seam}
use Rattle.keys.proofs.Tests.{eq_or_ne}
use Rattle.keys.proofs.StoreLaws.{in_order_rising}
use Rattle.keys.proofs.PlaceLaws.{put_at_zero, take_front}
use Rattle.claims.specs.declared.claim.Claim.{Claim}
use Rattle.claims.specs.Question.{Question, first_no, settle, question6}
use Rattle.claims.proofs.QuestionLaws.{first_no_front, first_no_rest, settle_done, settle_refused}
use Rattle.rule.specs.declared.node.Node.{Node}
use Rattle.rule.specs.Table.{sending}
use Rattle.rule.specs.Node.{node_keys, pending_of, all_tell}
use Rattle.rule.specs.Question.{question15}
use Rattle.rule.proofs.NodeLaws.{Ordered, node_in_order_ordered, ordered_node_in_order, ordered_tells}
use Rattle.rule.proofs.CallLaws.{ordered_beaten, length_node_keys, length_pending_of}
use Rattle.wire.specs.Answer.{Imaged}
use Rattle.wire.specs.Number.{byte, Below}
use Rattle.wire.specs.Claim.{key_width, ClaimFits}
use Rattle.wire.specs.Frame.{head_size, frame_count, frame_claims, frame_bytes, four_of, read_frame_questions, read_frame}
use Rattle.wire.specs.Image.{image_limit, node_bytes, read_image_questions, read_image, used_bytes, image_length}
use Rattle.wire.proofs.NumberLaws.{below_drop}
use Rattle.wire.proofs.RunLaws.{each_mem, mem_each, claim_faithful, read_run_fits}
use Rattle.wire.proofs.FrameLaws.{frame_numbered, read_frame_yes}
use Rattle.wire.proofs.FrameTrips.{frame_accepted}
use Rattle.wire.proofs.ImageLaws.{image_numbered, read_image_number}
use Rattle.wire.proofs.ImageTrips.{image_accepted, image_length_is_told, image_read_ordered, image_read_bytes}
use Rattle.host.specs.Frames.{fours, in_frames, frames_bytes, frames_limit}
use Rattle.host.specs.Call.{minus, node_in, saving_questions, saved, saved_out, taking_questions, node_after, frame_taken, frame_taken_out}
use Rattle.host.specs.Call.{entering_questions, node_entered, key_entered, key_entered_out, beat_image_questions, node_served, frames_sent}
use Rattle.host.specs.Call.{image_beaten, image_beaten_out, image_beaten_frames}
use Rattle.host.proofs.TurnPaths.{ordered_taken_in_turn}
use Rattle.host.proofs.FramesLaws.{flatten_fours, fours_mem}
use Rattle.host.proofs.Passing.{all_pass_mem, sending_spanned, spanned_passes}
use Rattle.host.proofs.EnterPaths.{fits_six, ordered_entered}
use Rattle.host.proofs.LibPaths.{sixes}
use Rattle.host.proofs.Fitting.{Narrow, narrow_fits, narrow_read, narrow_taken_in_turn, narrow_served, narrow_entered, sending_fits}

-- ---- a call that returned a length was not refused

minus_pos : (k n : ℕ) → (k ≡ 0 → ⊥) → minus k ≡ pos n → ⊥
minus_pos zero n f e = f refl
minus_pos (suc k) n f e = let z : ◌≡◌ {A = ℕ} 0 1 = cc in omega arith

module _ (k m n : ℕ) (e : settle k (pos m) minus ≡ pos n) where
  pub was_done : k ≡ 0
  was_done =
      ⊎_elim {C = k ≡ 0} (λ (z : k ≡ 0). z) (λ (f : k ≡ 0 → ⊥). absurd (minus_pos k n f (sym (settle_refused k (pos m) minus f) ∙ e))) (eq_or_ne k 0)

  is_length : m ≡ n
  is_length = let p : pos m ≡ pos n = sym (settle_done k (pos m) minus was_done) ∙ e in cc

-- ---- the image of a node in order whose numbers fit is read as that node

node_read : (n : Node) → Ordered n → Narrow n → read_image (node_bytes n) ≡ record { number = 0; node = n }
node_read n o w = image_accepted n (narrow_fits n o w) (ordered_node_in_order n o)

-- .. also from the buffer that it was written to
pub saved_is_read : (questions : List Question) (m : Node) (out : List ℕ) (n : ℕ) → (first_no questions ≡ 0 → Ordered m × Narrow m)
    → saved questions m (length out) ≡ pos n → read_image (take n (saved_out questions m out)) ≡ record { number = 0; node = m }
unfolding saved saved_out
saved_is_read questions m out n good e =
    let k = first_no (saving_questions questions (length out)) in
    let z : k ≡ 0 = was_done k (length (node_bytes m)) n e in
    let long : length (node_bytes m) ≡ n = is_length k (length (node_bytes m)) n e in
    let (o, w) = good (first_no_front questions (question15 (length out) image_limit ∷ []) z) in
    rw (z, take_front out (node_bytes m) n long) (node_read m o w)

-- ---- the image that a call is given

module _ (image : List ℕ) (b : List Question) (z : first_no (read_image_questions image ++ b) ≡ 0) where
  read : (read_image image).number ≡ 0
  read = read_image_number image ∙ first_no_front (read_image_questions image) b z

  behind : first_no b ≡ 0
  behind = first_no_rest (read_image_questions image) b (image_numbered image) z

  ordered : Ordered (node_in image)
  ordered = node_in_order_ordered (node_in image) (image_read_ordered image read)

  narrow : Below byte image → Narrow (node_in image)
  narrow below = narrow_read image below read

-- ---- the theorems: images

-- An image that is read as a node is that node's to the next host call: 14 and 1 are answered yes, and the call goes on with that node.
pub next_call_takes : (image : List ℕ) (n : Node) → read_image image ≡ record { number = 0; node = n }
    → (first_no (read_image_questions image) ≡ 0) × (node_in image ≡ n)
next_call_takes image n e = (sym (read_image_number image) ∙ ap (λ (r : Imaged). r.number) e, ap (λ (r : Imaged). r.node) e)

-- Claims are left out of an image once: without them it is read as the same node, and none is left out any more.
pub used_image_is_read : (image : List ℕ) → Below byte image → (read_image image).number ≡ 0
    → (read_image (used_bytes image) ≡ read_image image) × (all_tell (pending_of (node_in image)) ≡ true)
used_image_is_read image below done =
    let n = node_in image in
    let o = node_in_order_ordered n (image_read_ordered image done) in (
      ap read_image (sym (image_read_bytes image done)) ∙ (node_read n o (narrow_read image below done) ∙ (λ i. record { number = sym done i; node = n })),
      ordered_tells n o,
    )

-- The image that is written once a frame is taken is as long as the call says, and is read as the node that took the frame's claims.
pub taken_image_is_read : (image frame out : List ℕ) (n : ℕ) → Below byte image → Below byte frame → frame_taken image frame (length out) ≡ pos n
    → read_image (take n (frame_taken_out image frame out)) ≡ record { number = 0; node = node_after image frame }
taken_image_is_read image frame out n below under = saved_is_read (taking_questions image frame) (node_after image frame) out n good
  where
    good : first_no (taking_questions image frame) ≡ 0 → Ordered (node_after image frame) × Narrow (node_after image frame)
    good z =
        let b = read_frame_questions frame ++ sixes image frame in
        let y : first_no b ≡ 0 = behind image b z in
        let framed : first_no (read_frame_questions frame) ≡ 0 = first_no_front (read_frame_questions frame) (sixes image frame) y in
        let room : first_no (sixes image frame) ≡ 0 = first_no_rest (read_frame_questions frame) (sixes image frame) (frame_numbered frame) y in (
          ordered_taken_in_turn (node_in image) (frame_claims frame) (ordered image b z) (read_frame_yes frame framed).1 room,
          narrow_taken_in_turn (node_in image) (frame_claims frame) (narrow image b z below)
              (read_run_fits claim_faithful (frame_count frame) (drop head_size frame) (below_drop head_size frame under)),
        )

-- The image that is written once a key is entered is as long as the call says, and is read as the node with the key entered.
pub entered_image_is_read : (image : List ℕ) (key : ℕ) (out : List ℕ) (n : ℕ) → Below byte image → key < byte ^ key_width
    → key_entered image key (length out) ≡ pos n
    → read_image (take n (key_entered_out image key out)) ≡ record { number = 0; node = node_entered (node_in image) key }
entered_image_is_read image key out n below small = saved_is_read (entering_questions image key) (node_entered (node_in image) key) out n good
  where
    good : first_no (entering_questions image key) ≡ 0 → Ordered (node_entered (node_in image) key) × Narrow (node_entered (node_in image) key)
    good z =
        let b = question6 (key ∷ []) (node_keys (node_in image)) ∷ [] in
        let fits = fits_six (node_in image) key (behind image b z) in
        let o = ordered image b z in
        (ordered_entered (node_in image) key o fits, narrow_entered (node_in image) o (narrow image b z below) key small fits)

-- what a beat that was not refused found, and how long its frames are
module _ (image out frames : List ℕ) (m : ℕ) (e : image_beaten image (length out) (length frames) ≡ pos m) where
  beat_yes : first_no (beat_image_questions image (length out) (length frames)) ≡ 0
  unfolding image_beaten
  beat_yes = was_done (first_no (beat_image_questions image (length out) (length frames))) (length (frames_sent (node_in image))) m e

  beat_length : length (frames_sent (node_in image)) ≡ m
  unfolding image_beaten
  beat_length = is_length (first_no (beat_image_questions image (length out) (length frames))) (length (frames_sent (node_in image))) m e

  abbrev rooms : List Question
  rooms = question15 (length out) image_limit ∷ question15 (length frames) frames_limit ∷ []

  beat_ordered : Ordered (node_in image)
  beat_ordered = ordered image rooms beat_yes

-- The image that is written after a beat stands at the front of its buffer: that tells how long it is, and so much of it is read as the node after the beat.
pub beaten_image_is_read : (image out frames : List ℕ) (m : ℕ) → Below byte image → image_beaten image (length out) (length frames) ≡ pos m
    → let after = image_beaten_out image out (length frames) in
    let long = length (node_bytes (node_served (node_in image))) in
    (image_length after ≡ record { number = 0; length = long }) × (read_image (take long after) ≡ record { number = 0; node = node_served (node_in image) })
unfolding image_beaten_out
beaten_image_is_read image out frames m below e =
    let n = node_served (node_in image) in
    let o = beat_ordered image out frames m e in
    let w = narrow_served (node_in image) o (narrow image (rooms image out frames m e) (beat_yes image out frames m e) below) in
    let served : Ordered n = ordered_beaten (node_in image) o (length_pending_of (node_in image) o) in
    let rest = drop (length (node_bytes n)) out in
    rw (beat_yes image out frames m e, put_at_zero) (
      image_length_is_told n rest w.shaped (ordered_node_in_order n served),
      rw (take-append_seam (node_bytes n) rest) (node_read n served w),
    )

-- ---- the theorems: frames

-- The frames of a beat, as long as the call says, are those of the claims in groups of four, one after the other; the groups one after the other are the claims
-- that the beat sends, so none is lost and none stands in two frames; and each frame is read as exactly its group.
pub beaten_frames_are_read : (image out frames : List ℕ) (m : ℕ) → Below byte image → image_beaten image (length out) (length frames) ≡ pos m
    → let sent = sending (node_keys (node_in image)) (pending_of (node_in image)) in
    (take m (image_beaten_frames image (length out) frames) ≡ in_frames (fours sent))
    × (flatten (fours sent) ≡ sent)
    × ((g : List Claim) → Memᴰ g (fours sent) → read_frame (frame_bytes g) ≡ record { number = 0; claims = four_of g; count = length g })
unfolding image_beaten_frames frames_bytes
beaten_frames_are_read image out frames m below e =
    let n = node_in image in
    let sent = sending (node_keys n) (pending_of n) in
    let o = beat_ordered image out frames m e in
    let fit = sending_fits n o (narrow image (rooms image out frames m e) (beat_yes image out frames m e) below) in
    let rise = in_order_rising n.store o.store in (
      rw (beat_yes image out frames m e, ← beat_length image out frames m e) (take_front frames (frames_sent n) (length (frames_sent n)) refl),
      flatten_fours sent,
      λ g i.
          let (some, few, sub) = fours_mem sent g i in
          frame_accepted g (each_mem ClaimFits g (λ c j. mem_each ClaimFits sent fit c (sub c j))) some few
          (all_pass_mem g (λ c j.
          spanned_passes (node_keys n) rise (length_node_keys n o) c (sending_spanned (node_keys n) rise (pending_of n) o.fit c (sub c j)))),
    )
