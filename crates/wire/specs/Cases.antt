-- Worked examples over the call definitions, as one table: a frame and an image byte by byte, and each way to be refused; then, as a second
-- one, claims of three that no store could make, and as a third images saved under the old limit. That each row gives what is wanted is one law for each
-- table, in proofs/Cases. Assumes nothing.
use Rattle.std.specs.Prelude.{ℕ, ◌+◌, ◌*◌, List, [], ◌∷◌, ◌++◌, take, replicate}
use Rattle.keys.specs.Store.{limit}
use Rattle.claims.specs.declared.claim.Claim.{Claim}
use Rattle.claims.specs.Cases.{claim}
use Rattle.rule.specs.declared.node.Node.{Node}
use Rattle.rule.specs.Node.{node_of, empty_node}
use Rattle.wire.specs.Answer.{Framed, Length, Imaged}
use Rattle.wire.specs.Number.{bytes}
use Rattle.wire.specs.Claim.{key_width, count_width}
use Rattle.wire.specs.Frame.{frame_bytes, four_of, no_frame, read_frame, write_frame, frame_lent}
use Rattle.wire.specs.Image.{image_limit, image_bytes, no_image, read_image, image_length, write_image, image_lent}
use Rattle.wire.specs.OldLimit.{old_limit, Read, read_under}

-- what a row compares
pub data Compared : Type 0 where
  frame_is : Framed → Compared
  image_is : Imaged → Compared
  length_is : Length → Compared
  bytes_are : List ℕ → Compared
  read_is : Read → Compared

pub record Row : Type 0 where
  pub gives : Compared
  pub wanted : Compared

-- some bytes read as a frame, with the claims or the number that come of it
abbrev pub frame_gives : List ℕ → List Claim → ℕ → Row
frame_gives bs cs n = record { gives = frame_is (read_frame bs); wanted = frame_is (record { number = 0; claims = four_of cs; count = n }) }

abbrev pub frame_gets : List ℕ → ℕ → Row
frame_gets bs n = record { gives = frame_is (read_frame bs); wanted = frame_is (no_frame n) }

-- n of some claims written as a frame into so many bytes of 7, with the bytes afterwards or the number
abbrev pub frame_writes : List Claim → ℕ → ℕ → List ℕ → Row
frame_writes cs n room bs = record { gives = bytes_are (frame_lent (four_of cs) n (replicate room 7)); wanted = bytes_are bs }

abbrev pub frame_length_is : List Claim → ℕ → ℕ → ℕ → ℕ → Row
frame_length_is cs n room number long = record { gives = length_is (write_frame (four_of cs) n room); wanted = length_is (record { number = number; length = long }) }

-- some bytes read as an image
abbrev pub image_gives : List ℕ → Node → Row
image_gives bs n = record { gives = image_is (read_image bs); wanted = image_is (record { number = 0; node = n }) }

abbrev pub image_gets : List ℕ → ℕ → Row
image_gets bs n = record { gives = image_is (read_image bs); wanted = image_is (no_image n) }

-- the length of the image at the front of some bytes
abbrev pub front_is : List ℕ → ℕ → ℕ → Row
front_is bs number long = record { gives = length_is (image_length bs); wanted = length_is (record { number = number; length = long }) }

-- a node written as an image into so many bytes of 7
abbrev pub image_writes : Node → ℕ → List ℕ → Row
image_writes n room bs = record { gives = bytes_are (image_lent n (replicate room 7)); wanted = bytes_are bs }

abbrev pub image_length_is : Node → ℕ → ℕ → ℕ → Row
image_length_is n room number long = record { gives = length_is (write_image n room); wanted = length_is (record { number = number; length = long }) }

-- the bytes of an image of n keys, each of them 0, with nothing pending
abbrev pub zero_keys : ℕ → List ℕ
zero_keys n = bytes count_width n ++ replicate (key_width * n + count_width) 0

-- a small number in 8 bytes, high byte first
abbrev pub eight : ℕ → List ℕ
eight n = 0 ∷ 0 ∷ 0 ∷ 0 ∷ 0 ∷ 0 ∷ 0 ∷ n ∷ []

-- the claim of {0, 1, 10} and its 26 bytes
abbrev pub whole : Claim
whole = claim 0 10 11 3

abbrev pub whole_bytes : List ℕ
whole_bytes = eight 0 ++ (eight 10 ++ (eight 11 ++ (0 ∷ 3 ∷ [])))

-- a claim whose every byte tells its place
abbrev pub spread : Claim
spread = claim 0x0102030405060708 0x1112131415161718 0x2122232425262728 0x0132

abbrev pub spread_bytes : List ℕ
spread_bytes =
    0x01 ∷ 0x02 ∷ 0x03 ∷ 0x04 ∷ 0x05 ∷ 0x06 ∷ 0x07 ∷ 0x08
    ∷ 0x11 ∷ 0x12 ∷ 0x13 ∷ 0x14 ∷ 0x15 ∷ 0x16 ∷ 0x17 ∷ 0x18
    ∷ 0x21 ∷ 0x22 ∷ 0x23 ∷ 0x24 ∷ 0x25 ∷ 0x26 ∷ 0x27 ∷ 0x28
    ∷ 0x01 ∷ 0x32 ∷ []

-- a claim that fails question 4
abbrev pub empty : Claim
empty = claim 0 10 11 1

abbrev pub empty_bytes : List ℕ
empty_bytes = eight 0 ++ (eight 10 ++ (eight 11 ++ (0 ∷ 1 ∷ [])))

-- the node {0, 1, 10} with that claim pending, and its image of 54 bytes
abbrev pub node : Node
node = node_of (0 ∷ 1 ∷ 10 ∷ []) (whole ∷ [])

abbrev pub node_image : List ℕ
node_image = 0 ∷ 3 ∷ (eight 0 ++ (eight 1 ++ (eight 10 ++ (0 ∷ 1 ∷ whole_bytes))))

abbrev pub table : List Row
table =
    -- a frame of two claims, byte by byte, both ways; the buffer keeps what stands past it
    frame_gives (0x4C ∷ 0x43 ∷ 1 ∷ 2 ∷ (whole_bytes ++ spread_bytes)) (whole ∷ spread ∷ []) 2
    ∷ frame_writes (whole ∷ spread ∷ []) 2 58 (0x4C ∷ 0x43 ∷ 1 ∷ 2 ∷ (whole_bytes ++ (spread_bytes ++ (7 ∷ 7 ∷ []))))
    -- three bytes, and a mark the other way round
    ∷ frame_gets (0x4C ∷ 0x43 ∷ 1 ∷ []) 10
    ∷ frame_gets (0x43 ∷ 0x4C ∷ 1 ∷ 1 ∷ whole_bytes) 10
    -- version 0
    ∷ frame_gets (0x4C ∷ 0x43 ∷ 0 ∷ 1 ∷ whole_bytes) 11
    -- n of 0, n of 5, one byte more, one claim fewer
    ∷ frame_gets (0x4C ∷ 0x43 ∷ 1 ∷ 0 ∷ []) 12
    ∷ frame_gets (0x4C ∷ 0x43 ∷ 1 ∷ 5 ∷ (whole_bytes ++ (whole_bytes ++ (whole_bytes ++ (whole_bytes ++ whole_bytes))))) 12
    ∷ frame_gets (0x4C ∷ 0x43 ∷ 1 ∷ 1 ∷ (whole_bytes ++ (0 ∷ []))) 12
    ∷ frame_gets (0x4C ∷ 0x43 ∷ 1 ∷ 2 ∷ whole_bytes) 12
    -- a claim that fails 4
    ∷ frame_gets (0x4C ∷ 0x43 ∷ 1 ∷ 2 ∷ (whole_bytes ++ empty_bytes)) 13
    -- writing: n of 0 or 5, a claim that fails 4 among the first n and past them, a byte too few, just enough
    ∷ frame_length_is (whole ∷ []) 0 108 12 0
    ∷ frame_length_is (whole ∷ []) 5 200 12 0
    ∷ frame_length_is (whole ∷ empty ∷ []) 2 108 13 0
    ∷ frame_length_is (whole ∷ empty ∷ []) 1 108 0 30
    ∷ frame_length_is (whole ∷ []) 1 29 15 0
    ∷ frame_length_is (whole ∷ []) 1 30 0 30
    ∷ frame_writes (whole ∷ []) 1 29 (replicate 29 7)
    -- an image, byte by byte, both ways; the buffer keeps what stands past it
    ∷ image_gives node_image node
    ∷ image_writes node 56 (node_image ++ (7 ∷ 7 ∷ []))
    ∷ image_gives (0 ∷ 0 ∷ 0 ∷ 0 ∷ []) empty_node
    -- nothing, a count too high, a second count that is missing, a length that the counts belie
    ∷ image_gets [] 14
    ∷ image_gets (zero_keys (limit + 1)) 14
    ∷ image_gets (0 ∷ 1 ∷ eight 7) 14
    ∷ image_gets (node_image ++ (0 ∷ [])) 14
    ∷ image_gets (take 53 node_image) 14
    -- keys equal, keys falling, a pending claim whose lo the store lacks
    ∷ image_gets (image_bytes (5 ∷ 5 ∷ []) []) 1
    ∷ image_gets (image_bytes (6 ∷ 5 ∷ []) []) 1
    ∷ image_gets (image_bytes (1 ∷ 10 ∷ []) (whole ∷ [])) 1
    -- the length at the front of a longer run; one byte too few
    ∷ front_is (node_image ++ node_image) 0 54
    ∷ front_is (take 53 node_image) 14 0
    -- writing: a byte too few, just enough, a node out of order
    ∷ image_length_is node 53 15 0
    ∷ image_length_is node 54 0 54
    ∷ image_writes node 53 (replicate 53 7)
    ∷ image_length_is (node_of (6 ∷ 5 ∷ []) []) image_limit 1 0
    ∷ []

-- ---- claims of three that no store could make (document 02, slip 2)

-- claims of three whose middle keys would be 10 and 12
abbrev pub faulty : List Claim
faulty = claim 0 10 0 3 ∷ claim 0 10 6 3 ∷ []

-- an image of {0, 10} saved before 16 came: sound claims stand before, between and behind these two
abbrev pub saved_image : List ℕ
saved_image = image_bytes (0 ∷ 10 ∷ []) (claim 0 10 10 2 ∷ claim 0 10 0 3 ∷ claim 0 10 3 3 ∷ claim 0 10 6 3 ∷ whole ∷ claim 0 10 6 4 ∷ [])

-- .. and the claims that are used of it
abbrev pub sound_claims : List Claim
sound_claims = claim 0 10 10 2 ∷ claim 0 10 3 3 ∷ whole ∷ claim 0 10 6 4 ∷ []

abbrev pub faulty_table : List Row
faulty_table =
    -- in a frame, read and written: 13; past the claims that are written it is not asked about
    frame_gets (frame_bytes (whole ∷ faulty)) 13
    ∷ frame_length_is (whole ∷ faulty) 2 108 13 0
    ∷ frame_length_is (whole ∷ faulty) 1 108 0 30
    -- claims that fail 16 are left out, and the image is written without them; where all do, nothing is pending; the counts are those of the bytes
    ∷ image_gives saved_image (node_of (0 ∷ 10 ∷ []) sound_claims)
    ∷ image_writes (read_image saved_image).node 126 (image_bytes (0 ∷ 10 ∷ []) sound_claims ++ (7 ∷ 7 ∷ []))
    ∷ image_gives (image_bytes (0 ∷ 10 ∷ []) faulty) (node_of (0 ∷ 10 ∷ []) [])
    ∷ front_is saved_image 0 176
    ∷ image_gets (take 175 saved_image) 14
    -- .. but not before 1 is asked: one out of order, one whose lo the store lacks, keys out of order
    ∷ image_gets (image_bytes (0 ∷ 10 ∷ []) (claim 0 10 6 3 ∷ claim 0 10 0 3 ∷ [])) 1
    ∷ image_gets (image_bytes (1 ∷ 10 ∷ []) faulty) 1
    ∷ image_gets (image_bytes (10 ∷ 0 ∷ []) faulty) 1
    -- a node that is given with one gets 1
    ∷ image_length_is (node_of (0 ∷ 10 ∷ []) faulty) image_limit 1 0
    ∷ []

-- ---- images saved under the old limit (document 02, slip 6)

-- some bytes read under it, with the number and with the keys and claims that come of it
abbrev pub read_formerly : List ℕ → ℕ → List ℕ → List Claim → Row
read_formerly bs n ks cs = record {
  gives = read_is (read_under old_limit bs);
  wanted = read_is (record { number = n; contents = record { keys = ks; pending = cs } });
}

-- two keys far enough apart for a claim of any count, and an image of them with a claim of n keys pending
abbrev pub apart : List ℕ
apart = 0 ∷ 2 * limit ∷ []

abbrev pub counting : ℕ → List Claim
counting n = claim 0 (2 * limit) 7 n ∷ []

abbrev pub old_table : List Row
old_table =
    -- what slip 2 leaves out is left out whatever the limit
    read_formerly saved_image 0 (0 ∷ 10 ∷ []) sound_claims
    -- a claim that counts as many keys as the old limit; one key more got 1, and is taken now
    ∷ read_formerly (image_bytes apart (counting old_limit)) 0 apart (counting old_limit)
    ∷ read_formerly (image_bytes apart (counting (old_limit + 1))) 1 [] []
    ∷ image_gives (image_bytes apart (counting (old_limit + 1))) (node_of apart (counting (old_limit + 1)))
    -- as many keys as the old limit, all equal; one more got 14, and gets now what the others got
    ∷ read_formerly (zero_keys old_limit) 1 [] []
    ∷ read_formerly (zero_keys (old_limit + 1)) 14 [] []
    ∷ image_gets (zero_keys (old_limit + 1)) 1
    ∷ []
