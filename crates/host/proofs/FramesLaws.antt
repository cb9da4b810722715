-- Claims in frames of four: `fours` and `frames_bytes` of specs/Frames. In order: no claim is lost; what a group has; one frame and then the rest; how long the
-- frames are. What is true of any groups is in `text`, proofs/GroupsLaws. Assumes nothing.
use Prim.Native.Nat.{ℕ, zero, suc, ◌+◌, ◌-◌, ◌≤◌, ◌<◌, min}
use native.Mathlib.Omega.{arith}
use mathlib.Core.List.{List, [], ◌∷◌, ◌++◌, flatten, Memᴰ}
use mathlib.Core.Path.{◌≡◌, refl}
use lib.ListN.{length, take, drop, length-append, length-take, length-drop}
use Rattle.claims.specs.declared.claim.Claim.{Claim}
use Rattle.rule.specs.Table.{beat_limit}
use Rattle.wire.specs.Frame.{frame_limit, frame_length, frame_bytes}
use Rattle.wire.proofs.FrameTrips.{length_frame_bytes}
use Rattle.text.proofs.GroupsLaws.{flatten_in_groups, in_groups_mem, in_groups_nil, in_groups_turn, take_capped, drop_capped}
use Rattle.host.specs.Frames.{fours, frames_bytes, frames_length, frames_limit}

-- the size that document 02, slip 8, names
pub frames_size : frames_limit ≡ 462
frames_size = refl

-- ---- four to a frame

-- no claim is lost
pub flatten_fours : (cs : List Claim) → flatten (fours cs) ≡ cs
flatten_fours cs = flatten_in_groups frame_limit cs (omega arith)

-- each group has from one claim to four, all of them among the claims
pub fours_mem : (cs g : List Claim) → Memᴰ g (fours cs)
    → (1 ≤ length g) × (length g ≤ frame_limit) × ((c : Claim) → Memᴰ c g → Memᴰ c cs)
fours_mem cs g m = in_groups_mem frame_limit cs g (omega arith) m

-- one frame, and then the rest
pub frames_bytes_turn : (cs : List Claim) (n : ℕ) → 0 < length cs → n ≡ min (length cs) frame_limit
    → frames_bytes cs ≡ frame_bytes (take n cs) ++ frames_bytes (drop n cs)
unfolding frames_bytes
frames_bytes_turn cs n h e = rw (e, take_capped frame_limit cs, drop_capped frame_limit cs, in_groups_turn frame_limit cs (omega arith) h)

pub frames_bytes_nil : frames_bytes [] ≡ []
unfolding frames_bytes
frames_bytes_nil = rw (in_groups_nil {A = Claim} frame_limit)

-- ---- how long they are

length_frames_in : (m : ℕ) (cs : List Claim) → length cs ≤ m → length (frames_bytes cs) ≡ frames_length (length cs)
length_frames_in zero [] h = rw frames_bytes_nil
length_frames_in zero (c ∷ cs) h = absurd (omega arith)
length_frames_in (suc m) [] h = rw frames_bytes_nil
length_frames_in (suc m) (c ∷ cs) h =
    let n = min (length (c ∷ cs)) frame_limit in
    let g = take n (c ∷ cs) in
    let rest = drop n (c ∷ cs) in
    let k = length-take n (c ∷ cs) in
    let l = length-drop n (c ∷ cs) in
    rw (frames_bytes_turn (c ∷ cs) n (omega arith) refl, length-append (frame_bytes g) (frames_bytes rest), length_frame_bytes g, length_frames_in m rest (omega arith), l, k)
    (count (length cs))
  where
    count : (n : ℕ) → frame_length (min (min (suc n) frame_limit) (suc n)) + frames_length (suc n - min (suc n) frame_limit) ≡ frames_length (suc n)
    count n = omega arith

pub length_frames_bytes : (cs : List Claim) → length (frames_bytes cs) ≡ frames_length (length cs)
length_frames_bytes cs = length_frames_in (length cs) cs (omega arith)

pub frames_length_limit : (m : ℕ) → m ≤ beat_limit → frames_length m ≤ frames_limit
frames_length_limit m h = omega arith
