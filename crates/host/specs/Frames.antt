-- A beat's claims in frames (document 01, "Host calls"): "the claims to a second, four to a frame and the rest in a last one". Then how long the frames of so
-- many claims are, and the claims in a lent run of words. Assumes nothing.
use Rattle.std.specs.Prelude.{ℕ, ◌+◌, ◌*◌, ◌/◌, List, [], ◌∷◌, ◌++◌, length}
use Rattle.claims.specs.declared.claim.Claim.{Claim}
use Rattle.claims.specs.Words.{claim_width, words_of, from_words}
use Rattle.rule.specs.Table.{beat_limit}
use Rattle.wire.specs.Claim.{claim_size}
use Rattle.wire.specs.Frame.{frame_limit, head_size, frame_bytes}
use Rattle.wire.specs.Run.{Layout, read_run}
use Rattle.text.specs.Groups.{in_groups, group_count}

-- "four to a frame and the rest in a last one"
abbrev pub fours : List Claim → List (List Claim)
fours cs = in_groups frame_limit cs

-- frames, one after the other
abbrev pub in_frames : List (List Claim) → List ℕ
in_frames [] = []
in_frames (g ∷ gs) = frame_bytes g ++ in_frames gs

unfoldable pub frames_bytes : List Claim → List ℕ
frames_bytes cs = in_frames (fours cs)

-- how many frames m claims make, and how long they are
abbrev pub frames_for : ℕ → ℕ
frames_for m = group_count m frame_limit

abbrev pub frames_length : ℕ → ℕ
frames_length m = head_size * frames_for m + claim_size * m

-- "its host call 462 bytes of frames" (document 02, slip 8): the frames of as many claims as a beat may send
abbrev pub frames_limit : ℕ
frames_limit = frames_length beat_limit

-- how a claim lies in a lent run of words
abbrev pub in_words : Layout Claim
in_words = record { size = claim_width; read = from_words; write = words_of }

-- the claims that some words are
abbrev pub claims_in : List ℕ → List Claim
claims_in words = read_run in_words (length words / claim_width) words
