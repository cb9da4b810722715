-- "Images saved under the old limit mean the same." (document 02, slip 6) Reading an image, as Image has it, with the limit as a parameter of the judging:
-- of how many keys an image may have (14), and of how many a pending claim may count (3). That with today's limit this is what the call returns, and that
-- what is accepted under one limit and keeps within another is read as the same, is in proofs/OldLimitLaws. Assumes nothing.
use Rattle.std.specs.Prelude.{ℕ, ◌≤◌, Bool, true, ◌&&◌, List, [], ◌∷◌, leb, eqb, length}
use Rattle.keys.specs.Store.{rising}
use Rattle.claims.specs.declared.claim.Claim.{Claim}
use Rattle.claims.specs.Question.{Question, question, first_no, settle, question2, question4, question5}
use Rattle.claims.specs.Reply.{ends}
use Rattle.rule.specs.Table.{climbs}
use Rattle.rule.specs.Node.{holds_all}
use Rattle.wire.specs.Answer.{Imaged}
use Rattle.wire.specs.Run.{key, Each}
use Rattle.wire.specs.Image.{Section, claim_section, count_of, counts_fit, told_length, Contents, parse, node_from, used}

-- the limit before slip 6
abbrev pub old_limit : ℕ
old_limit = 1024

-- ---- the questions, with at most `most` keys

-- 14. Are the image's counts at most the limit and 64, and its length exactly theirs?
abbrev pub sections_under : ℕ → List Section
sections_under most = record { size = key.size; most = most } ∷ claim_section ∷ []

abbrev pub question14_under : ℕ → List ℕ → Question
question14_under most bs = question 14 (counts_fit (sections_under most) bs && eqb (length bs) (told_length (sections_under most) bs))

-- 3. Is cnt from 1 to the limit?
abbrev pub question3_under : ℕ → Claim → Question
question3_under most c = question 3 (leb 1 c.cnt && leb c.cnt most)

-- 2 to 5: 16 is not put to the claims of an image
abbrev pub judged_under : ℕ → Claim → ℕ
judged_under most c = first_no (question2 c ∷ question3_under most c ∷ question4 c ∷ question5 c ∷ [])

-- "each passes questions 2 to 5 and has lo and hi in the store", whose keys are l
abbrev pub all_fit_under : ℕ → List Claim → List ℕ → Bool
all_fit_under most [] l = true
all_fit_under most (c ∷ cs) l = eqb (judged_under most c) 0 && (holds_all (ends c) l && all_fit_under most cs l)

-- 1, of what the bytes hold: the keys rise strictly, and so do the claims, which fit
abbrev pub question1_under : ℕ → Contents → Question
question1_under most c = question 1 (rising c.keys && (climbs c.pending && all_fit_under most c.pending c.keys))

-- ---- reading

-- the number, and what is used of the image
pub record Read : Type 0 where
  pub number : ℕ
  pub contents : Contents

abbrev pub nothing_read : ℕ → Read
nothing_read number = record { number = number; contents = record { keys = []; pending = [] } }

abbrev pub questions_under : ℕ → List ℕ → List Question
questions_under most bs = question14_under most bs ∷ question1_under most (parse bs) ∷ []

unfoldable pub read_under : ℕ → List ℕ → Read
read_under most bs = settle (first_no (questions_under most bs)) (record { number = 0; contents = used (parse bs) }) nothing_read

-- .. as the call returns it: a node of these keys and claims
abbrev pub imaged_as : Read → Imaged
imaged_as r = record { number = r.number; node = node_from r.contents }

-- ---- which images keep within a limit

abbrev pub CountsTo : ℕ → Claim → Type 0
CountsTo most c = c.cnt ≤ most

-- no more keys than that, and no pending claim that counts more
abbrev pub Within : ℕ → List ℕ → Type 0
Within most bs = (count_of bs ≤ most) × Each (CountsTo most) (parse bs).pending
