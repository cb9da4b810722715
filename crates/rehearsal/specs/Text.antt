-- What the program prints (document 01, "Rehearsal program"): "one line a delivery: L or R for the sender, lo, hi, sum, cnt. Last comes a line with
-- both counts and the deliveries; or only `refused`, a space and the number." Every line ends with a line feed. Assumes nothing.
use Rattle.std.specs.Prelude.{ℕ, zero, suc, ◌+◌, ◌*◌, cond, List, [], ◌∷◌, ◌++◌, eqb, get_or}
use Rattle.claims.specs.Question.{settle}
use Rattle.rule.specs.declared.delivery.Delivery.{Delivery}
use Rattle.rule.specs.Round.{transcript}
use Rattle.rule.specs.Call.{round_by, record_width}
use Rattle.text.specs.Decimal.{decimal, digit_limit}
use Rattle.text.specs.Line.{line_feed, space, refused_line}
use Rattle.rehearsal.specs.Answer.{Rehearsed}
use Rattle.rehearsal.specs.Rehearsal.{first_bytes, second_bytes, store_in, rehearsed}

-- ---- characters

-- a number, and the space before it
unfoldable pub field : ℕ → List ℕ
field n = space ∷ decimal n

-- a word, and a number after it
abbrev pub labelled : List ℕ → ℕ → List ℕ
labelled word n = word ++ field n

-- `left`, ` right` and ` claims`
abbrev pub left_word : List ℕ
left_word = 108 ∷ 101 ∷ 102 ∷ 116 ∷ []

abbrev pub right_word : List ℕ
right_word = 32 ∷ 114 ∷ 105 ∷ 103 ∷ 104 ∷ 116 ∷ []

abbrev pub claims_word : List ℕ
claims_word = 32 ∷ 99 ∷ 108 ∷ 97 ∷ 105 ∷ 109 ∷ 115 ∷ []

-- ---- lines

-- "L or R for the sender"
abbrev pub letter : ℕ → ℕ
letter sender = cond (eqb sender 0) 76 82

-- "lo, hi, sum, cnt": four numbers
abbrev pub four : ℕ → ℕ → ℕ → ℕ → List ℕ
four lo hi sum cnt = field lo ++ (field hi ++ (field sum ++ field cnt))

-- "one line a delivery: L or R for the sender, lo, hi, sum, cnt"
abbrev pub line : Delivery → List ℕ
line d = letter d.sender ∷ (four d.claim.lo d.claim.hi d.claim.sum d.claim.cnt ++ line_feed)

abbrev pub lines : List Delivery → List ℕ
lines [] = []
lines (d ∷ ds) = line d ++ lines ds

-- "Last comes a line with both counts and the deliveries"
abbrev pub last_line : ℕ → ℕ → ℕ → List ℕ
last_line left right deliveries = labelled left_word left ++ (labelled right_word right ++ (labelled claims_word deliveries ++ line_feed))

-- ---- the whole text

-- the text of an outcome and its deliveries: "or only `refused`, a space and the number" (`refused_line` of `text`)
unfoldable pub report : Rehearsed → List Delivery → List ℕ
report r ds = settle r.number (lines ds ++ last_line r.left r.right r.deliveries) refused_line

-- "The rehearsal program still lends 2,048 records" (document 02, slip 6): a number of its own, which does not follow the limit of a store
abbrev pub lent_records : ℕ
lent_records = 2048

-- the deliveries of a rehearsal
abbrev pub deliveries_of : List ℕ → List Delivery
deliveries_of input = transcript (round_by (store_in (first_bytes input)) (store_in (second_bytes input)))

-- what the program prints for an input
unfoldable pub printed : List ℕ → List ℕ
printed input = report (rehearsed input lent_records) (deliveries_of input)

-- ---- the text as the code comes by it: from the words of records

-- the four numbers from a place of some words on, and the line of the record at a place
unfoldable pub four_at : List ℕ → ℕ → List ℕ
four_at words at = four (get_or words at 0) (get_or words (at + 1) 0) (get_or words (at + 2) 0) (get_or words (at + 3) 0)

unfoldable pub row_at : List ℕ → ℕ → List ℕ
row_at words at = letter (get_or words at 0) ∷ (four_at words (at + 1) ++ line_feed)

-- the lines of the first n records
unfoldable pub rows : ℕ → List ℕ → List ℕ
rows zero words = []
rows (suc n) words = rows n words ++ row_at words (n * record_width)

-- how long a field, a line and a last line are at most
abbrev pub field_limit : ℕ
field_limit = 1 + digit_limit

abbrev pub line_limit : ℕ
line_limit = 1 + 4 * field_limit + 1

abbrev pub last_limit : ℕ
last_limit = 4 + field_limit + (6 + field_limit) + (7 + field_limit) + 1

-- how long the whole text is at most
abbrev pub text_limit : ℕ
text_limit = line_limit * lent_records + last_limit
