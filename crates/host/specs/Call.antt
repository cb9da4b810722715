-- What each host call returns, for any bytes, and what its lent buffers hold afterwards (document 01, "Host calls" and "Questions"): the first question
-- answered no decides, "save that images come first: 14, 1, then 10 to 13, 6, 15". A frame is taken whole or refused whole. Assumes nothing.
use Rattle.std.specs.Prelude.{ℕ, List, [], ◌∷◌, ◌++◌, ℤ, pos, neg_ℤ, length}
use Rattle.keys.specs.Place.{put_at}
use Rattle.claims.specs.Question.{Question, first_no, settle, question6}
use Rattle.claims.specs.Call.{entered}
use Rattle.rule.specs.declared.node.Node.{Node}
use Rattle.rule.specs.Node.{node_keys, pending_of, node_of}
use Rattle.rule.specs.Table.{serve, sending}
use Rattle.rule.specs.Question.{question8, question15}
use Rattle.rule.specs.Call.{joined_node}
use Rattle.wire.specs.Frame.{frame_claims, read_frame_questions}
use Rattle.wire.specs.Image.{image_limit, node_bytes, read_image_questions, read_image}
use Rattle.opening.specs.Cost.{opening_cost}
use Rattle.opening.specs.Call.{cost_questions}
use Rattle.sheet.specs.Sheet.{sheet_text}
use Rattle.sheet.specs.Call.{sheet_question15}
use Rattle.host.specs.Taking.{questions6, taken_in_turn}
use Rattle.host.specs.Frames.{frames_bytes, frames_limit}

-- "Both return minus the number on a refusal."
abbrev pub minus : ℕ → ℤ
minus number = neg_ℤ (pos number)

-- the node that an image is of
abbrev pub node_in : List ℕ → Node
node_in image = (read_image image).node

-- ---- an image that is counted: the keys that it holds. Asks 14 and 1.

unfoldable pub image_counted : List ℕ → ℤ
image_counted image = settle (first_no (read_image_questions image)) (pos (length (node_keys (node_in image)))) minus

-- ---- an image whose wall sheet is written (document 02, slip 4): the keys that it holds. Asks 14 and 1, and 15 for the sheet's own length.

abbrev pub sheet_of : List ℕ → List ℕ
sheet_of image = sheet_text (node_keys (node_in image))

abbrev pub sheet_questions : List ℕ → ℕ → List Question
sheet_questions image room = read_image_questions image ++ (sheet_question15 (node_keys (node_in image)) room ∷ [])

unfoldable pub image_sheet : List ℕ → ℕ → ℤ
image_sheet image room = settle (first_no (sheet_questions image room)) (pos (length (sheet_of image))) minus

unfoldable pub image_sheet_out : List ℕ → List ℕ → List ℕ
image_sheet_out image out = settle (first_no (sheet_questions image (length out))) (put_at out 0 (sheet_of image)) (λ k. out)

-- ---- what a new kiosk costs (document 02, slip 5): the deliveries that fill an empty store with so many keys. Asks 17.

unfoldable pub opening_told : ℕ → ℤ
opening_told keys = settle (first_no (cost_questions keys)) (pos (opening_cost keys)) minus

-- ---- an image that is written: after the questions of a call comes 15 for the longest image ("and the host calls require that much output": document
-- 02, slip 6), and then a node's image goes to the front of a buffer and its length is returned, or minus the number and the buffer is as it was

abbrev pub saving_questions : List Question → ℕ → List Question
saving_questions questions room = questions ++ (question15 room image_limit ∷ [])

unfoldable pub saved : List Question → Node → ℕ → ℤ
saved questions n room = settle (first_no (saving_questions questions room)) (pos (length (node_bytes n))) minus

unfoldable pub saved_out : List Question → Node → List ℕ → List ℕ
saved_out questions n out = settle (first_no (saving_questions questions (length out))) (put_at out 0 (node_bytes n)) (λ k. out)

-- ---- a frame: "One takes an image and a frame, takes each claim in turn, writes the new image and returns its length."

-- the questions before 15: of the image, of the frame, and 6 claim by claim
abbrev pub taking_questions : List ℕ → List ℕ → List Question
taking_questions image frame =
    read_image_questions image ++ (read_frame_questions frame ++ questions6 (frame_claims frame) (node_keys (node_in image)))

-- the node once the frame is taken
abbrev pub node_after : List ℕ → List ℕ → Node
node_after image frame = taken_in_turn (node_in image) (frame_claims frame)

abbrev pub frame_taken : List ℕ → List ℕ → ℕ → ℤ
frame_taken image frame room = saved (taking_questions image frame) (node_after image frame) room

abbrev pub frame_taken_out : List ℕ → List ℕ → List ℕ → List ℕ
frame_taken_out image frame out = saved_out (taking_questions image frame) (node_after image frame) out

-- ---- a key: `enter` of an image's node, whose pending claims stay. Its questions are put as the frame's are: 14, 1, then 6, 15.

-- the questions before 15
abbrev pub entering_questions : List ℕ → ℕ → List Question
entering_questions image key = read_image_questions image ++ (question6 (key ∷ []) (node_keys (node_in image)) ∷ [])

-- the node with the key entered into its store
abbrev pub node_entered : Node → ℕ → Node
node_entered n key = record { store = (entered n.store key).store; pending = n.pending }

abbrev pub key_entered : List ℕ → ℕ → ℕ → ℤ
key_entered image key room = saved (entering_questions image key) (node_entered (node_in image) key) room

abbrev pub key_entered_out : List ℕ → ℕ → List ℕ → List ℕ
key_entered_out image key out = saved_out (entering_questions image key) (node_entered (node_in image) key) out

-- ---- two images: "Two images become one." (document 02, slip 9) It is of their nodes, once pending claims that fail 16 are left out of both.

-- the questions before 15: "14 and 1 for the first image, then for the second, then 8, then 15 (18,052 bytes)" (document 02, slip 9)
abbrev pub joining_questions : List ℕ → List ℕ → List Question
joining_questions first second =
    read_image_questions first ++ (read_image_questions second ++ (question8 (node_keys (node_in first)) (node_keys (node_in second)) ∷ []))

-- the node of both
abbrev pub node_joined : List ℕ → List ℕ → Node
node_joined first second = joined_node (node_in first) (node_in second)

abbrev pub images_joined : List ℕ → List ℕ → ℕ → ℤ
images_joined first second room = saved (joining_questions first second) (node_joined first second) room

abbrev pub images_joined_out : List ℕ → List ℕ → List ℕ → List ℕ
images_joined_out first second out = saved_out (joining_questions first second) (node_joined first second) out

-- ---- a beat: "One takes an image, runs a beat, writes the new image to one buffer and the claims to a second, four to a frame and the rest in a last one,
-- and returns the length of the frames."

-- "A beat needs 17 places, and its host call 462 bytes of frames (15)" (document 02, slip 8), and as before the longest image's bytes "for the image, whatever is
-- pending"
abbrev pub beat_image_questions : List ℕ → ℕ → ℕ → List Question
beat_image_questions image room frames_room =
    read_image_questions image ++ (question15 room image_limit ∷ question15 frames_room frames_limit ∷ [])

-- the node after a beat, and the frames of the claims that it sends
abbrev pub node_served : Node → Node
node_served n = node_of (node_keys n) (serve (node_keys n) (pending_of n)).kept

abbrev pub frames_sent : Node → List ℕ
frames_sent n = frames_bytes (sending (node_keys n) (pending_of n))

unfoldable pub image_beaten : List ℕ → ℕ → ℕ → ℤ
image_beaten image room frames_room =
    settle (first_no (beat_image_questions image room frames_room))
    (pos (length (frames_sent (node_in image))))
    minus

unfoldable pub image_beaten_out : List ℕ → List ℕ → ℕ → List ℕ
image_beaten_out image out frames_room =
    settle (first_no (beat_image_questions image (length out) frames_room))
    (put_at out 0 (node_bytes (node_served (node_in image))))
    (λ k. out)

unfoldable pub image_beaten_frames : List ℕ → ℕ → List ℕ → List ℕ
image_beaten_frames image room frames =
    settle (first_no (beat_image_questions image room (length frames)))
    (put_at frames 0 (frames_sent (node_in image)))
    (λ k. frames)
