-- Images (document 01, "Frame and image"): "Image of a node: key count (2 bytes), keys (8 each), pending count (2 bytes), pending claims (26 each), each
-- in its order." Then the longest image, question 14, and what the calls return for any bytes and any node. Assumes nothing.
use Rattle.std.specs.Prelude.{ℕ, ◌+◌, ◌*◌, ◌^◌, ◌<◌, Bool, true, ◌&&◌, List, [], ◌∷◌, ◌++◌, ◌≡◌, leb, eqb, length, drop}
use Rattle.keys.specs.Store.{limit, Sized}
use Rattle.keys.specs.Place.{put_at}
use Rattle.claims.specs.declared.claim.Claim.{Claim}
use Rattle.claims.specs.Question.{Question, question, first_no, settle}
use Rattle.rule.specs.declared.node.Node.{Node}
use Rattle.rule.specs.Table.{table_limit}
use Rattle.rule.specs.Node.{node_keys, pending_of, node_of, empty_node, telling}
use Rattle.rule.specs.Question.{saved_question1, node_question1, question15}
use Rattle.wire.specs.Answer.{Length, Imaged}
use Rattle.wire.specs.Number.{byte, bytes, number_at}
use Rattle.wire.specs.Claim.{key_width, count_width, ClaimFits}
use Rattle.wire.specs.Run.{Layout, key, claim, read_run, write_run, Each}
use Rattle.wire.specs.Length.{no_length}

-- ---- sections

-- a section: a count of 2 bytes, and then so many things of one size; what size, and how many at most
pub record Section : Type 0 where
  pub size : ℕ
  pub most : ℕ

-- an image's sections, in their order: keys, pending claims
abbrev pub key_section : Section
key_section = record { size = key.size; most = limit }

abbrev pub claim_section : Section
claim_section = record { size = claim.size; most = table_limit }

abbrev pub sections : List Section
sections = key_section ∷ claim_section ∷ []

-- how long a section of n things is
abbrev pub section_length : Section → ℕ → ℕ
section_length s n = count_width + s.size * n

-- the longest image
abbrev pub longest : List Section → ℕ
longest [] = 0
longest (s ∷ ss) = section_length s s.most + longest ss

abbrev pub image_limit : ℕ
image_limit = longest sections

-- the bytes of a section, and of the image of some keys and pending claims
abbrev pub section_bytes : {A : Type 0} → Layout A → List A → List ℕ
section_bytes l xs = bytes count_width (length xs) ++ write_run l xs

unfoldable pub image_bytes : List ℕ → List Claim → List ℕ
image_bytes ks cs = section_bytes key ks ++ section_bytes claim cs

-- "Image of a node". Of its store's sums: "The image doesn't hold them; reading works them out." (document 02, slip 7)
abbrev pub node_bytes : Node → List ℕ
node_bytes n = image_bytes (node_keys n) (pending_of n)

-- a node whose arrays are as long as their types say ..
pub record Shaped (n : Node) : Type 0 where
  pub store : Sized n.store
  pub pending : length n.pending.claims ≡ table_limit

-- .. and whose numbers fit their widths: so is every node that the code holds
pub record NodeFits (n : Node) : Type 0 where
  pub shaped : Shaped n
  pub keys : Each (λ (k : ℕ). k < byte ^ key_width) n.store.keys
  pub pending : Each ClaimFits n.pending.claims

-- ---- what the counts of some bytes tell

-- the count at the front
abbrev pub count_of : List ℕ → ℕ
count_of bs = number_at bs 0 count_width

-- what stands behind the section at the front
abbrev pub behind : Section → List ℕ → List ℕ
behind s bs = drop (section_length s (count_of bs)) bs

-- is the count there, and not too high?
unfoldable pub count_fits : ℕ → List ℕ → Bool
count_fits most bs = leb count_width (length bs) && leb (count_of bs) most

-- are all counts there, and none too high?
unfoldable pub counts_fit : List Section → List ℕ → Bool
counts_fit [] bs = true
counts_fit (s ∷ ss) bs = count_fits s.most bs && counts_fit ss (behind s bs)

-- "The image's length follows from its counts."
unfoldable pub told_length : List Section → List ℕ → ℕ
told_length [] bs = 0
told_length (s ∷ ss) bs = section_length s (count_of bs) + told_length ss (behind s bs)

-- 14. Are the image's counts at most the limit and 64, and its length exactly theirs?
abbrev pub question14 : List ℕ → Question
question14 bs = question 14 (counts_fit sections bs && eqb (length bs) (told_length sections bs))

-- 14 of the image at the front of some bytes: are its counts there and not too high, and the bytes not fewer than they tell?
abbrev pub front_question14 : List ℕ → Question
front_question14 bs = question 14 (counts_fit sections bs && leb (told_length sections bs) (length bs))

-- ---- reading: parse, judge all, use what passes 16, node

pub record Contents : Type 0 where
  pub keys : List ℕ
  pub pending : List Claim

-- the things of the section at the front
abbrev pub things_in : {A : Type 0} → Layout A → List ℕ → List A
things_in l bs = read_run l (count_of bs) (drop count_width bs)

unfoldable pub parse : List ℕ → Contents
parse bs = record { keys = things_in key bs; pending = things_in claim (behind key_section bs) }

abbrev pub node_from : Contents → Node
node_from c = node_of c.keys c.pending

-- what is used of an image that has passed: a pending claim that fails 16 "is left out once the image has passed 1 as before, and the rest of the image is
-- used" (document 02, slip 2)
abbrev pub used : Contents → Contents
used c = record { keys = c.keys; pending = telling c.pending }

-- judged by 14, then 1 "as before", all that the bytes hold: "An image with contents out of order gets 1."
abbrev pub read_image_questions : List ℕ → List Question
read_image_questions bs = question14 bs ∷ saved_question1 (node_from (parse bs)) ∷ []

abbrev pub no_image : ℕ → Imaged
no_image number = record { number = number; node = empty_node }

unfoldable pub read_image : List ℕ → Imaged
read_image bs =
    settle (first_no (read_image_questions bs))
    (record { number = 0; node = node_from (used (parse bs)) })
    no_image

-- the bytes of an image without the claims that are left out: "Such an image is written back without it" (document 02, slip 2)
abbrev pub used_bytes : List ℕ → List ℕ
used_bytes bs = image_bytes (used (parse bs)).keys (used (parse bs)).pending

-- the length of the image at the front of some bytes
unfoldable pub image_length : List ℕ → Length
image_length bs = settle (first_no (front_question14 bs ∷ [])) (record { number = 0; length = told_length sections bs }) no_length

-- ---- writing: 1, then 15 for the image's own length

abbrev pub write_image_questions : Node → ℕ → List Question
write_image_questions n room = node_question1 n ∷ question15 room (length (node_bytes n)) ∷ []

unfoldable pub write_image : Node → ℕ → Length
write_image n room =
    settle (first_no (write_image_questions n room))
    (record { number = 0; length = length (node_bytes n) })
    no_length

unfoldable pub image_lent : Node → List ℕ → List ℕ
image_lent n out = settle (first_no (write_image_questions n (length out))) (put_at out 0 (node_bytes n)) (λ k. out)
