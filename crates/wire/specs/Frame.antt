-- Frames (document 01, "Frame and image"): "Frame: bytes hex 4C 43, version byte 1, count byte n from 1 to 4, then n claims of 26 bytes (lo 8, hi 8,
-- sum 8, cnt 2). At most 108 bytes." Then questions 10 to 13, and what the two calls return for any bytes. Assumes nothing.
use Rattle.std.specs.Prelude.{ℕ, ◌+◌, ◌-◌, ◌*◌, Bool, true, false, ◌&&◌, List, [], ◌∷◌, ◌++◌, leb, eqb, length, take, drop, get_or}
use Rattle.std.specs.List.{list_all}
use Rattle.keys.specs.Place.{put_at}
use Rattle.claims.specs.declared.claim.Claim.{Claim}
use Rattle.claims.specs.Question.{Question, question, first_no, settle}
use Rattle.claims.specs.Call.{judged}
use Rattle.rule.specs.Node.{blanks}
use Rattle.rule.specs.Question.{question15}
pub use Rattle.wire.specs.Answer.{frame_limit}
use Rattle.wire.specs.Answer.{Framed, Length}
use Rattle.wire.specs.Length.{no_length}
use Rattle.wire.specs.Claim.{claim_size}
use Rattle.wire.specs.Run.{claim, read_run, write_run}

-- "bytes hex 4C 43"
abbrev pub mark : List ℕ
mark = 0x4C ∷ 0x43 ∷ []

-- "version byte 1"
abbrev pub version : ℕ
version = 1

-- where the version byte and the count byte stand, and how many bytes come before the claims: 2, 3 and 4
abbrev pub version_place : ℕ
version_place = length mark

abbrev pub count_place : ℕ
count_place = version_place + 1

abbrev pub head_size : ℕ
head_size = count_place + 1

-- "the length 4 + 26n"
abbrev pub frame_length : ℕ → ℕ
frame_length n = head_size + claim_size * n

-- "At most 108 bytes."
abbrev pub frame_most : ℕ
frame_most = frame_length frame_limit

-- the bytes before the claims, and the frame of some claims
unfoldable pub head_bytes : ℕ → List ℕ
head_bytes n = mark ++ (version ∷ (n ∷ []))

unfoldable pub frame_bytes : List Claim → List ℕ
frame_bytes cs = head_bytes (length cs) ++ write_run claim cs

-- the count that a frame tells, and its claims
abbrev pub frame_count : List ℕ → ℕ
frame_count bs = get_or bs count_place 0

abbrev pub frame_claims : List ℕ → List Claim
frame_claims bs = read_run claim (frame_count bs) (drop head_size bs)

-- do some bytes begin with these?
abbrev pub begins : List ℕ → List ℕ → Bool
begins [] bs = true
begins (m ∷ ms) [] = false
begins (m ∷ ms) (b ∷ bs) = eqb b m && begins ms bs

-- 10. Has the frame at least 4 bytes, the first two hex 4C 43?
unfoldable pub marked : List ℕ → Bool
marked bs = leb head_size (length bs) && begins mark bs

abbrev pub question10 : List ℕ → Question
question10 bs = question 10 (marked bs)

-- 11. Is the version byte 1?
abbrev pub question11 : List ℕ → Question
question11 bs = question 11 (eqb (get_or bs version_place 0) version)

-- 12. Is n from 1 to 4, and the length 4 + 26n? (Of n alone, where a frame is written.)
unfoldable pub countable : ℕ → Bool
countable n = leb 1 n && leb n frame_limit

unfoldable pub sized : List ℕ → Bool
sized bs = countable (frame_count bs) && eqb (length bs) (frame_length (frame_count bs))

abbrev pub question12n : ℕ → Question
question12n n = question 12 (countable n)

abbrev pub question12 : List ℕ → Question
question12 bs = question 12 (sized bs)

-- 13. Does each claim in it pass 2 to 5? And 16, which is "part of what 13 asks" (document 02, slip 2).
abbrev pub all_pass : List Claim → Bool
all_pass cs = list_all (λ (c : Claim). eqb (judged c) 0) cs

abbrev pub question13 : List Claim → Question
question13 cs = question 13 (all_pass cs)

-- some claims, and zeros after them up to 4
abbrev pub four_of : List Claim → List Claim
four_of cs = cs ++ blanks (frame_limit - length cs)

-- Reading a frame asks 10 to 13. "A refusal returns its number, .. and zeros for any claim or count."
abbrev pub head_questions : List ℕ → List Question
head_questions bs = question10 bs ∷ question11 bs ∷ question12 bs ∷ []

abbrev pub read_frame_questions : List ℕ → List Question
read_frame_questions bs = head_questions bs ++ (question13 (frame_claims bs) ∷ [])

abbrev pub no_frame : ℕ → Framed
no_frame number = record { number = number; claims = blanks frame_limit; count = 0 }

unfoldable pub read_frame : List ℕ → Framed
read_frame bs =
    settle (first_no (read_frame_questions bs))
    (record { number = 0; claims = four_of (frame_claims bs); count = frame_count bs })
    no_frame

-- "Writing a frame asks 12 (of n), 13, 15": of the first n of four claims, into so many bytes.
abbrev pub write_frame_questions : List Claim → ℕ → ℕ → List Question
write_frame_questions cs n room = question12n n ∷ question13 (take n cs) ∷ question15 room (frame_length n) ∷ []

unfoldable pub write_frame : List Claim → ℕ → ℕ → Length
write_frame cs n room =
    settle (first_no (write_frame_questions cs n room))
    (record { number = 0; length = frame_length n })
    no_length

-- the lent bytes afterwards: "On success, output past what was written keeps its contents."
unfoldable pub frame_lent : List Claim → ℕ → List ℕ → List ℕ
frame_lent cs n out =
    settle (first_no (write_frame_questions cs n (length out)))
    (put_at out 0 (frame_bytes (take n cs)))
    (λ k. out)
