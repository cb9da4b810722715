-- Which unions a rehearsal refuses, by how many keys they have, where both images are accepted (document 02, slip 6): the records that the program lends are
-- too few for some that a store can hold (`unions_get_9`), and those that it can't hold are refused before (`unions_get_8`). Assumes nothing.
use Prim.Native.Nat.{ℕ, ◌*◌, ◌≤◌, ◌<◌}
use native.Mathlib.Omega.{arith}
use mathlib.Core.Bool.{true}
use mathlib.Core.List.{List, [], ◌∷◌, ◌++◌}
use mathlib.Core.Path.{◌≡◌, ap, sym, ◌∙◌}
use borrow.Author.Tests.{le-leb, lt-leb}
use lib.ListN.{length}
use Rattle.keys.specs.declared.store.Store.{Store}
use Rattle.keys.specs.Store.{limit, keys_of, in_order}
use Rattle.claims.specs.Question.{first_no, question1}
use Rattle.claims.proofs.QuestionLaws.{first_no_yes, first_no_no, first_no_append_zero, settle_refused}
use Rattle.rule.specs.Round.{union}
use Rattle.rule.specs.Question.{question8, question9}
use Rattle.rule.specs.Call.{round_questions}
use Rattle.rule.proofs.NodeLaws.{node_in_order_ordered}
use Rattle.wire.specs.Image.{front_question14, read_image_questions, read_image}
use Rattle.wire.proofs.ImageLaws.{image_numbered, read_image_number}
use Rattle.wire.proofs.ImageTrips.{image_read_ordered}
use Rattle.text.specs.Line.{refused_line}
use Rattle.rehearsal.specs.Rehearsal.{first_bytes, second_bytes, store_in, questions_after, rehearse_number, rehearsed}
use Rattle.rehearsal.specs.Text.{report, lent_records, printed}
use Rattle.rehearsal.proofs.RehearsalLaws.{rehearsed_number}

-- the store of an image that is accepted is in order
store_in_ordered : (bs : List ℕ) → (read_image bs).number ≡ 0 → in_order (store_in bs) ≡ true
store_in_ordered bs done = (node_in_order_ordered (read_image bs).node (image_read_ordered bs done)).store

module _ (input : List ℕ) where
  -- a refusal prints its number
  printed_refused : (n : ℕ) → rehearse_number input lent_records ≡ n → (n ≡ 0 → ⊥) → printed input ≡ refused_line n
  unfolding printed report
  printed_refused n e f =
      let number : (rehearsed input lent_records).number ≡ n = rehearsed_number input lent_records ∙ e in
      settle_refused (rehearsed input lent_records).number _ refused_line (λ z. f (sym number ∙ z)) ∙ ap refused_line number

  module _ (front : (front_question14 input).yes ≡ true)
      (first : (read_image (first_bytes input)).number ≡ 0) (second : (read_image (second_bytes input)).number ≡ 0) where
    abbrev left : Store
    left = store_in (first_bytes input)

    abbrev right : Store
    right = store_in (second_bytes input)

    -- the union's keys
    abbrev keys : ℕ
    keys = length (union (keys_of left) (keys_of right))

    -- only 8 and 9 are left to ask
    number_left : (records : ℕ)
        → rehearse_number input records ≡ first_no (question8 (keys_of left) (keys_of right) ∷ question9 (keys_of left) (keys_of right) records ∷ [])
    unfolding rehearse_number
    number_left records =
        let eight = question8 (keys_of left) (keys_of right) ∷ question9 (keys_of left) (keys_of right) records ∷ [] in
        let round = round_questions left right records in
        let after = questions_after left (second_bytes input) records in
        let a = read_image_questions (first_bytes input) in
        let b = read_image_questions (second_bytes input) in
        first_no_yes (front_question14 input) (a ++ after) front
        ∙ (first_no_append_zero a after (image_numbered (first_bytes input)) (sym (read_image_number (first_bytes input)) ∙ first)
        ∙ (first_no_append_zero b round (image_numbered (second_bytes input)) (sym (read_image_number (second_bytes input)) ∙ second)
        ∙ (first_no_yes (question1 left) (question1 right ∷ eight) (store_in_ordered (first_bytes input) first)
        ∙ first_no_yes (question1 right) eight (store_in_ordered (second_bytes input) second))))

    -- "so unions of 1,025 to 2,048 keys get 9 there" (document 02, slip 6)
    pub unions_get_9 : lent_records < 2 * keys → keys ≤ limit → printed input ≡ refused_line 9
    unions_get_9 many fits =
        printed_refused 9
        (number_left lent_records
        ∙ (first_no_yes (question8 (keys_of left) (keys_of right)) (question9 (keys_of left) (keys_of right) lent_records ∷ []) (le-leb keys limit fits)
        ∙ first_no_no (question9 (keys_of left) (keys_of right) lent_records) [] (lt-leb (2 * keys) lent_records many)))
        (λ z. omega arith)

    -- .. and more keys than a store can hold get 8
    pub unions_get_8 : limit < keys → printed input ≡ refused_line 8
    unions_get_8 many =
        let nine = question9 (keys_of left) (keys_of right) lent_records ∷ [] in
        printed_refused 8 (number_left lent_records ∙ first_no_no (question8 (keys_of left) (keys_of right)) nine (lt-leb keys limit many)) (λ z. omega arith)
