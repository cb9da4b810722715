-- What a rehearsal decides (document 01, "Rehearsal program"), for any input and any number of lent records: the two images, the questions in
-- their order, what is returned and what the lent words hold afterwards. Not here: what is printed (Text). Assumes nothing.
use Rattle.std.specs.Prelude.{ℕ, List, ◌∷◌, ◌++◌, ◌≡◌, length, take, drop}
use Rattle.keys.specs.declared.store.Store.{Store}
use Rattle.keys.specs.Place.{put_at}
use Rattle.claims.specs.Question.{Question, first_no, settle}
use Rattle.rule.specs.Round.{transcript}
use Rattle.rule.specs.Call.{round_questions, round_by, delivery_words, records_in}
use Rattle.wire.specs.Image.{sections, told_length, front_question14, read_image_questions, read_image}
use Rattle.rehearsal.specs.Answer.{Rehearsed, no_rehearsal}

-- "reads two images end to end .. (the first as long as its counts say, the rest is the second"
abbrev pub first_bytes : List ℕ → List ℕ
first_bytes input = take (told_length sections input) input

abbrev pub second_bytes : List ℕ → List ℕ
second_bytes input = drop (told_length sections input) input

-- the store of an image; "Only stores take part; pending tables don't change."
abbrev pub store_in : List ℕ → Store
store_in bs = (read_image bs).node.store

-- What is asked once the first image has given the left store: 14 and 1 of the second image, then the questions of a round, 9 of so many records.
abbrev pub questions_after : Store → List ℕ → ℕ → List Question
questions_after left rest records = read_image_questions rest ++ round_questions left (store_in rest) records

-- "if the input is shorter than that, the first gets 14), judges the first by 14 and 1 before the second, runs one round"
abbrev pub rehearse_questions : List ℕ → ℕ → List Question
rehearse_questions input records =
    front_question14 input
    ∷ (read_image_questions (first_bytes input) ++ questions_after (store_in (first_bytes input)) (second_bytes input) records)

-- "both counts and the deliveries", after the round of two stores
abbrev pub round_told : Store → Store → Rehearsed
round_told left right = record {
  number = 0;
  left = length (round_by left right).stores.left;
  right = length (round_by left right).stores.right;
  deliveries = length (round_by left right).lines;
}

-- the lent words after the round: a record a delivery, five words to a record; "output past what was written keeps its contents"
abbrev pub round_words : Store → Store → List ℕ → List ℕ
round_words left right lent = put_at lent 0 (delivery_words (transcript (round_by left right)))

-- What is decided by a number, that of the first question answered no or 0, for the round of two stores: what is returned, and the lent words afterwards.
unfoldable pub told_by : ℕ → Store → Store → Rehearsed
told_by n left right = settle n (round_told left right) no_rehearsal

unfoldable pub words_by : ℕ → Store → Store → List ℕ → List ℕ
words_by n left right lent = settle n (round_words left right lent) (λ k. lent)

-- the number of a rehearsal that lends so many records
unfoldable pub rehearse_number : List ℕ → ℕ → ℕ
rehearse_number input records = first_no (rehearse_questions input records)

-- The rehearsal of an input that lends so many records. Where they are fewer than twice the keys of the union, it is refused with 9.
unfoldable pub rehearsed : List ℕ → ℕ → Rehearsed
rehearsed input records = told_by (rehearse_number input records) (store_in (first_bytes input)) (store_in (second_bytes input))

-- the lent words afterwards
unfoldable pub rehearsed_words : List ℕ → List ℕ → List ℕ
rehearsed_words input lent = words_by (rehearse_number input (records_in lent)) (store_in (first_bytes input)) (store_in (second_bytes input)) lent

-- What the code says of a rehearsal: what it returned, and what the lent words hold afterwards.
pub record Rehearsal (input lent : List ℕ) (r : Rehearsed) (after : List ℕ) : Type 0 where
  pub told : r ≡ rehearsed input (records_in lent)
  pub words : after ≡ rehearsed_words input lent
