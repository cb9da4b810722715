-- What the code of a host call knows on its way: the questions that it has put, and the node that it has. The keys are lent, and the rest of the node stands in
-- `r`, with the number of the first question answered no, or 0. Then what a result tells as a signed number. No rule of document 01; what the calls return is
-- in Call. Assumes nothing.
use Rattle.std.specs.Prelude.{ℕ, ◌*◌, ◌^◌, ◌<◌, ◌≤◌, true, List, ◌≡◌, ℤ, pos, length, Result, Ok, Err, IfOk}
use Rattle.keys.specs.Store.{limit}
use Rattle.keys.specs.Place.{put_at}
use Rattle.claims.specs.declared.claim.Claim.{Claim}
use Rattle.claims.specs.declared.refusal.Refusal.{Refusal}
use Rattle.claims.specs.Question.{Question, first_no}
use Rattle.claims.specs.Refusal.{refusal_number}
use Rattle.claims.specs.Words.{claim_width}
use Rattle.rule.specs.declared.node.Node.{Node}
use Rattle.rule.specs.Answer.{Rest}
use Rattle.rule.specs.Node.{node_in_order}
use Rattle.nodes.specs.Lent.{node_held, taken_beside}
use Rattle.wire.specs.Run.{read_run}
use Rattle.wire.specs.Frame.{all_pass}
use Rattle.wire.specs.Image.{image_limit, node_bytes, read_image_questions, Shaped}
use Rattle.host.specs.Taking.{taken_until}
use Rattle.host.specs.Frames.{frames_bytes, frames_limit, in_words}
use Rattle.host.specs.Call.{minus, node_in, taking_questions, node_after, entering_questions, node_entered, joining_questions, node_joined, saved, saved_out, node_served, frames_sent}
use Rattle.host.specs.Call.{image_beaten, image_beaten_out, image_beaten_frames}

-- The run of keys has all places; and where no question was answered no, the node is in order.
pub record Sound (keys : List ℕ) (r : Rest) : Type 0 where
  pub long : length keys ≡ limit
  pub ordered : r.number ≡ 0 → node_in_order (node_held keys r) ≡ true

-- These questions were put; and where none was answered no, the node is n.
pub record Known (questions : List Question) (n : Node) (keys : List ℕ) (r : Rest) : Type 0 where
  pub number : r.number ≡ first_no questions
  pub node : r.number ≡ 0 → node_held keys r ≡ n
  pub sound : Sound keys r

-- An image was loaded; the claims of a frame were taken into its node; a key was entered into it.
abbrev pub Loaded : List ℕ → List ℕ → Rest → Type 0
Loaded image = Known (read_image_questions image) (node_in image)

abbrev pub TakenFrom : List ℕ → List ℕ → List ℕ → Rest → Type 0
TakenFrom image frame = Known (taking_questions image frame) (node_after image frame)

abbrev pub EnteredInto : List ℕ → ℕ → List ℕ → Rest → Type 0
EnteredInto image key = Known (entering_questions image key) (node_entered (node_in image) key)

-- .. and two images were joined
abbrev pub JoinedFrom : List ℕ → List ℕ → List ℕ → Rest → Type 0
JoinedFrom first second = Known (joining_questions first second) (node_joined first second)

-- ---- what a result tells: a length or a count, or minus the number of the question answered no

abbrev pub told : Result ℕ Refusal → ℤ
told (Ok n) = pos n
told (Err r) = minus (refusal_number r)

-- The result of a call that returns z: no length or count is so great that a signed number does not tell it.
pub record Tells (z : ℤ) (result : Result ℕ Refusal) : Type 0 where
  pub value : told result ≡ z
  pub small : IfOk result (λ n. n < 2 ^ 63)

-- Behind these questions the node's image was saved, or not where a question was answered no, 15 being the last: the result, and what the buffer `before`
-- holds afterwards.
pub record Saved (questions : List Question) (n : Node) (before after : List ℕ) (result : Result ℕ Refusal) : Type 0 where
  pub tells : Tells (saved questions n (length before)) result
  pub left : after ≡ saved_out questions n before

-- ---- the claims of a frame, taken in turn (src/turn.rt)

-- given: a node in order, all of whose places are there
pub record TurnsGiven (n : Node) : Type 0 where
  pub shaped : Shaped n
  pub ordered : node_in_order n ≡ true

-- told: what taking them until one is refused gives, and the run of keys with all places
pub record Turned (n : Node) (cs : List Claim) (keys : List ℕ) (r : Rest) : Type 0 where
  pub taken : taken_beside keys r ≡ taken_until n cs
  pub long : length keys ≡ limit

-- ---- a beat, and the claims that it sends in frames (src/sent.rt)

-- given: a run of words with `count` claims, which pass 13, and room for their frames
pub record FramesGiven (words : List ℕ) (count room : ℕ) : Type 0 where
  pub long : claim_width * count ≤ length words
  pub pass : all_pass (read_run in_words count words) ≡ true
  pub fits : length (frames_bytes (read_run in_words count words)) ≤ room

-- told: the length of the claims' frames, which stand at the front of the buffer `before`
pub record FramesWritten (cs : List Claim) (before after : List ℕ) (r : ℕ) : Type 0 where
  pub size : r ≡ length (frames_bytes cs)
  pub frames : after ≡ put_at before 0 (frames_bytes cs)

-- given: a node in order, its run of keys with all places, and room for any image and for the frames of any beat
pub record SendGiven (n : Node) (room frames_room : ℕ) : Type 0 where
  pub long : length n.store.keys ≡ limit
  pub ordered : node_in_order n ≡ true
  pub image : image_limit ≤ room
  pub frames : frames_limit ≤ frames_room

-- told: the length of the frames that the node sends; they and the image of the node after the beat stand at the front of their buffers
pub record Sent (n : Node) (out out₁ frames frames₁ : List ℕ) (result : Result ℕ Refusal) : Type 0 where
  pub size : result ≡ Ok (length (frames_sent n))
  pub most : length (frames_sent n) ≤ frames_limit
  pub left : out₁ ≡ put_at out 0 (node_bytes (node_served n))
  pub sent : frames₁ ≡ put_at frames 0 (frames_sent n)

-- told of an image: what a beat of it returns, and what it leaves in both buffers
pub record BeatTold (image out out₁ frames frames₁ : List ℕ) (result : Result ℕ Refusal) : Type 0 where
  pub tells : Tells (image_beaten image (length out) (length frames)) result
  pub left : out₁ ≡ image_beaten_out image out (length frames)
  pub sent : frames₁ ≡ image_beaten_frames image (length out) frames
