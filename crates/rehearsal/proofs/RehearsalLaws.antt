-- What a rehearsal decides: by its number; where no question is answered no, and that the deliveries then fit the records. Assumes nothing.
use Prim.Native.Nat.{ℕ, ◌≤◌}
use native.Mathlib.Omega.{arith}
use mathlib.Core.List.{List, ◌++◌}
use mathlib.Core.Path.{◌≡◌, refl}
use lib.Dec.{lit<}
use lib.ListN.{length}
use Rattle.keys.specs.declared.store.Store.{Store}
use Rattle.claims.specs.Question.{first_no}
use Rattle.claims.proofs.QuestionLaws.{first_no_zero, first_no_rest, settle_done, settle_refused, settle_number}
use Rattle.rule.specs.Call.{round_questions, round_by, records_in}
use Rattle.rule.proofs.CallLaws.{round_questions_yes, round_yes_rounded}
use Rattle.wire.specs.Image.{front_question14, read_image_questions}
use Rattle.wire.proofs.ImageLaws.{image_numbered}
use Rattle.rehearsal.specs.Answer.{Rehearsed, no_rehearsal}
use Rattle.rehearsal.specs.Rehearsal.{first_bytes, second_bytes, store_in, questions_after, round_told, round_words}
use Rattle.rehearsal.specs.Rehearsal.{told_by, words_by, rehearse_number, rehearsed, rehearsed_words}

-- ---- what is decided by a number

module _ (left right : Store) where
  pub told_by_number : (n : ℕ) → (told_by n left right).number ≡ n
  unfolding told_by
  told_by_number n = settle_number (λ (r : Rehearsed). r.number) n (round_told left right) no_rehearsal refl (λ k. refl)

  pub told_by_done : {n : ℕ} → n ≡ 0 → told_by n left right ≡ round_told left right
  unfolding told_by
  told_by_done {n} z = settle_done n (round_told left right) no_rehearsal z

  pub told_by_refused : {n : ℕ} → (n ≡ 0 → ⊥) → told_by n left right ≡ no_rehearsal n
  unfolding told_by
  told_by_refused {n} f = settle_refused n (round_told left right) no_rehearsal f

  pub words_by_done : (lent : List ℕ) {n : ℕ} → n ≡ 0 → words_by n left right lent ≡ round_words left right lent
  unfolding words_by
  words_by_done lent {n} z = settle_done n (round_words left right lent) (λ k. lent) z

  pub words_by_refused : (lent : List ℕ) {n : ℕ} → (n ≡ 0 → ⊥) → words_by n left right lent ≡ lent
  unfolding words_by
  words_by_refused lent {n} f = settle_refused n (round_words left right lent) (λ k. lent) f

-- ---- where no question is answered no

module _ (input : List ℕ) (records : ℕ) where
  abbrev left : Store
  left = store_in (first_bytes input)

  abbrev right : Store
  right = store_in (second_bytes input)

  pub rehearsed_number : (rehearsed input records).number ≡ rehearse_number input records
  unfolding rehearsed
  rehearsed_number = told_by_number left right (rehearse_number input records)

  module _ (none : rehearse_number input records ≡ 0) where
    pub rehearsed_told : rehearsed input records ≡ round_told left right
    unfolding rehearsed
    rehearsed_told = told_by_done left right none

    round_none : first_no (round_questions left right records) ≡ 0
    unfolding rehearse_number
    round_none =
        let after = questions_after left (second_bytes input) records in
        let first = read_image_questions (first_bytes input) in
        let a : first_no (first ++ after) ≡ 0 = (first_no_zero (front_question14 input) (first ++ after) (lit< tt) none).1 in
        let b : first_no after ≡ 0 = first_no_rest first after (image_numbered (first_bytes input)) a in
        first_no_rest (read_image_questions (second_bytes input)) (round_questions left right records) (image_numbered (second_bytes input)) b

    -- the deliveries fit the records
    pub deliveries_fit : length (round_by left right).lines ≤ records
    deliveries_fit =
        let y = round_questions_yes left right records round_none in
        omega (arith, y.room, (round_yes_rounded left right records y).bound)

-- the lent words, where a fifth of them are the records
pub rehearsed_words_told : (input lent : List ℕ) → rehearse_number input (records_in lent) ≡ 0
    → rehearsed_words input lent ≡ round_words (store_in (first_bytes input)) (store_in (second_bytes input)) lent
unfolding rehearsed_words
rehearsed_words_told input lent none = words_by_done (store_in (first_bytes input)) (store_in (second_bytes input)) lent none
