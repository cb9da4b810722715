-- What the calls of `sheet` return, for any store or run of keys, and what the lent buffer holds afterwards (document 02, slip 4): "15 wants the sheet's own
-- length of lent output, and that length is returned." Assumes nothing.
use Rattle.std.specs.Prelude.{ℕ, List, [], ◌∷◌, leb, length}
use Rattle.keys.specs.declared.store.Store.{Store}
use Rattle.keys.specs.Store.{limit, keys_of}
use Rattle.keys.specs.Place.{put_at}
use Rattle.claims.specs.Question.{Question, question, first_no, settle, question1}
use Rattle.rule.specs.Question.{question15}
use Rattle.wire.specs.Answer.{Length}
use Rattle.wire.specs.Length.{no_length}
use Rattle.sheet.specs.Sheet.{sheet_text, sheet_length}

-- 15: "Is each lent output long enough?" (Of one with so many places, for the sheet of these keys.)
abbrev pub sheet_question15 : List ℕ → ℕ → Question
sheet_question15 l room = question15 room (length (sheet_text l))

-- what is returned once questions were put, and the buffer then
abbrev pub sheet_told : List Question → List ℕ → Length
sheet_told questions l = settle (first_no questions) (record { number = 0; length = length (sheet_text l) }) no_length

abbrev pub sheet_put : List Question → List ℕ → List ℕ → List ℕ
sheet_put questions l out = settle (first_no questions) (put_at out 0 (sheet_text l)) (λ k. out)

-- ---- `write_sheet`: 1 of the store, then 15

abbrev pub write_sheet_questions : Store → ℕ → List Question
write_sheet_questions s room = question1 s ∷ sheet_question15 (keys_of s) room ∷ []

unfoldable pub write_sheet : Store → ℕ → Length
write_sheet s room = sheet_told (write_sheet_questions s room) (keys_of s)

unfoldable pub sheet_lent : Store → List ℕ → List ℕ
sheet_lent s out = sheet_put (write_sheet_questions s (length out)) (keys_of s) out

-- ---- `write_sheet_in`: of a lent run of keys, for any content. Question 1 is not put, but more keys than a store has are refused with its number.

abbrev pub write_sheet_in_questions : List ℕ → ℕ → List Question
write_sheet_in_questions l room = question 1 (leb (length l) limit) ∷ sheet_question15 l room ∷ []

unfoldable pub write_sheet_in : List ℕ → ℕ → Length
write_sheet_in l room = sheet_told (write_sheet_in_questions l room) l

unfoldable pub sheet_in_lent : List ℕ → List ℕ → List ℕ
sheet_in_lent l out = sheet_put (write_sheet_in_questions l (length out)) l out

-- the longest sheet: that of a full store
abbrev pub sheet_limit : ℕ
sheet_limit = sheet_length limit
