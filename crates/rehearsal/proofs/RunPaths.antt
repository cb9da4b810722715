-- One law for each way that src/run.rt goes. In order: the number of questions behind others; the round; the length told; the ways.
-- Assumes nothing.
use Prim.Native.Nat.{ℕ, ◌-◌, ◌≤◌}
use native.Mathlib.Omega.{arith}
use mathlib.Core.List.{List, [], ◌∷◌, ◌++◌}
use mathlib.Core.Path.{◌≡◌, refl, ap, ap₂, sym, ◌∙◌}
use borrow.Author.Tests.{leb-true}
use lib.Dec.{leb, lit<}
use lib.ListN.{length, take, drop, length-drop}
use lib.Seq.{take_all}
use Rattle.keys.specs.declared.store.Store.{Store}
use Rattle.keys.proofs.StoreLaws.{count_store_of}
use Rattle.keys.proofs.Tests.{and_right}
use Rattle.claims.specs.Question.{Question, first_no}
use Rattle.claims.proofs.QuestionLaws.{Numbered, first_no_zero, first_no_append_zero, first_no_append_no, settle_done, settle_number}
use Rattle.rule.specs.Answer.{Met}
use Rattle.rule.specs.Call.{round_questions, round_by, met, met_words, records_in}
use Rattle.rule.proofs.CallLaws.{met_done, met_words_done, met_words_refused}
use Rattle.wire.specs.Answer.{Length, Imaged}
use Rattle.wire.specs.Length.{no_length}
use Rattle.wire.specs.Image.{sections, counts_fit, told_length, front_question14, read_image_questions, read_image, image_length}
use Rattle.wire.proofs.ImageLaws.{image_numbered, read_image_number}
use Rattle.rehearsal.specs.Answer.{Rehearsed, no_rehearsal}
use Rattle.rehearsal.specs.Rehearsal.{first_bytes, second_bytes, store_in, questions_after, round_told}
use Rattle.rehearsal.specs.Rehearsal.{rehearse_number, rehearsed, rehearsed_words, Rehearsal}
use Rattle.rehearsal.proofs.RehearsalLaws.{told_by_done, told_by_refused, words_by_done, words_by_refused}

-- ---- the number n of some questions, where others stand behind them

module _ (a b : List Question) (n : ℕ) (e : n ≡ first_no a) where
  number_front : (n ≡ 0 → ⊥) → n ≡ first_no (a ++ b)
  number_front f = e ∙ sym (first_no_append_no a b (λ z. f (e ∙ z)))

  number_behind : Numbered a → n ≡ 0 → first_no b ≡ first_no (a ++ b)
  number_behind h z = sym (first_no_append_zero a b h (sym e ∙ z))

-- the number of an image that was read
image_number : (bs : List ℕ) (i : Imaged) → i ≡ read_image bs → i.number ≡ first_no (read_image_questions bs)
image_number bs i read = ap (λ (x : Imaged). x.number) read ∙ read_image_number bs

-- ---- the round

-- what is told of a round that was not refused
abbrev told : Met → Rehearsed
told m = record { number = 0; left = m.left.count; right = m.right.count; deliveries = m.deliveries }

module _ (s t : Store) (records : ℕ) where
  met_number : (met s t records).number ≡ first_no (round_questions s t records)
  unfolding met
  met_number =
      let refused : ℕ → Met = λ x. record { number = x; left = s; right = t; deliveries = 0 } in
      settle_number (λ (m : Met). m.number) (first_no (round_questions s t records)) _ refused refl (λ k. refl)

  told_met : first_no (round_questions s t records) ≡ 0 → told (met s t records) ≡ round_told s t
  told_met h = rw (met_done s t records h, count_store_of (round_by s t).stores.left, count_store_of (round_by s t).stores.right)

-- ---- the length that the counts of the first image tell

module _ (input : List ℕ) (l : Length) (gave : l ≡ image_length input) where
  abbrev front : List Question
  front = front_question14 input ∷ []

  front_number : l.number ≡ first_no front
  unfolding image_length
  front_number =
      ap (λ (x : Length). x.number) gave
      ∙ settle_number (λ (x : Length). x.number) (first_no front) (record { number = 0; length = told_length sections input }) no_length refl (λ k. refl)

  front_length : l.number ≡ 0 → l.length ≡ told_length sections input
  unfolding image_length
  front_length fine =
      ap (λ (x : Length). x.length)
      (gave ∙ settle_done (first_no front) (record { number = 0; length = told_length sections input }) no_length (sym front_number ∙ fine))

  -- the input is at least as long
  pub front_fits : l.number ≡ 0 → l.length ≤ length input
  front_fits fine =
      let y = (first_no_zero (front_question14 input) [] (lit< tt) (sym front_number ∙ fine)).0 in
      let fits = and_right (counts_fit sections input) (leb (told_length sections input) (length input)) y in
      rw (front_length fine) (leb-true (told_length sections input) (length input) fits)

-- ---- the ways, each further than the one before: the counts, the first image, the second, the round

module _ (input lent : List ℕ) (l : Length) (gave : l ≡ image_length input) where
  abbrev records : ℕ
  records = records_in lent

  abbrev first : List ℕ
  first = first_bytes input

  abbrev second : List ℕ
  second = second_bytes input

  abbrev left : Store
  left = store_in first

  abbrev right : Store
  right = store_in second

  -- the questions after those of the front, in the order in which they are asked
  abbrev round : List Question
  round = round_questions left right records

  abbrev after_first : List Question
  after_first = questions_after left second records

  abbrev after_front : List Question
  after_front = read_image_questions first ++ after_first

  rehearsal_refused : {after : List ℕ} {n : ℕ} → n ≡ rehearse_number input records → (n ≡ 0 → ⊥) → after ≡ lent → Rehearsal input lent (no_rehearsal n) after
  unfolding rehearsed rehearsed_words
  rehearsal_refused e f same = record {
    told = rw (← e) (sym (told_by_refused left right f));
    words = same ∙ rw (← e) (sym (words_by_refused left right lent f));
  }

  pub front_refused : (l.number ≡ 0 → ⊥) → Rehearsal input lent (no_rehearsal l.number) lent
  unfolding rehearse_number
  front_refused f = rehearsal_refused (number_front (front input l gave) after_front l.number (front_number input l gave) f) f refl

  module _ (fine : l.number ≡ 0) where
    front_behind : first_no after_front ≡ rehearse_number input records
    unfolding rehearse_number
    front_behind = number_behind (front input l gave) after_front l.number (front_number input l gave) (lit< tt, tt) fine

    -- the first image, as the code takes it from the input
    module _ (i : Imaged) (read : i ≡ read_image (take l.length input)) where
      first_is : i ≡ read_image first
      first_is = read ∙ ap (λ (n : ℕ). read_image (take n input)) (front_length input l gave fine)

      pub first_refused : (i.number ≡ 0 → ⊥) → Rehearsal input lent (no_rehearsal i.number) lent
      first_refused f =
          rehearsal_refused (number_front (read_image_questions first) after_first i.number (image_number first i first_is) f ∙ front_behind) f refl

      module _ (left_good : i.number ≡ 0) where
        first_behind : first_no after_first ≡ rehearse_number input records
        first_behind =
            number_behind (read_image_questions first) after_first i.number (image_number first i first_is) (image_numbered first) left_good ∙ front_behind

        -- and the second, from the first one's end on
        module _ (j : Imaged) (rest : j ≡ read_image (take (length input - l.length) (drop l.length input))) where
          second_is : j ≡ read_image second
          second_is =
              let fits = front_fits input l gave fine in
              let whole = take_all (length input - l.length) (drop l.length input) (rw length-drop (omega arith)) in
              rest ∙ (ap read_image whole ∙ ap (λ (n : ℕ). read_image (drop n input)) (front_length input l gave fine))

          pub second_refused : (j.number ≡ 0 → ⊥) → Rehearsal input lent (no_rehearsal j.number) lent
          second_refused f =
              rehearsal_refused (number_front (read_image_questions second) round j.number (image_number second j second_is) f ∙ first_behind) f refl

          -- the round of their stores
          module _ (right_good : j.number ≡ 0) (m : Met) (after : List ℕ)
              (run : m ≡ met i.node.store j.node.store records) (wrote : after ≡ met_words i.node.store j.node.store lent) where
            met_is : m ≡ met left right records
            met_is = run ∙ ap₂ (λ (x y : Imaged). met x.node.store y.node.store records) first_is second_is

            wrote_is : after ≡ met_words left right lent
            wrote_is = wrote ∙ ap₂ (λ (x y : Imaged). met_words x.node.store y.node.store lent) first_is second_is

            asked : m.number ≡ first_no round
            asked = ap (λ (x : Met). x.number) met_is ∙ met_number left right records

            round_number : m.number ≡ rehearse_number input records
            round_number =
                asked
                ∙ (number_behind (read_image_questions second) round j.number (image_number second j second_is) (image_numbered second) right_good
                ∙ first_behind)

            pub round_refused : (m.number ≡ 0 → ⊥) → Rehearsal input lent (no_rehearsal m.number) after
            round_refused f = rehearsal_refused round_number f (wrote_is ∙ met_words_refused left right lent (λ z. f (asked ∙ z)))

            pub round_done : m.number ≡ 0 → Rehearsal input lent (told m) after
            unfolding rehearsed rehearsed_words
            round_done z =
                let q : first_no round ≡ 0 = sym asked ∙ z in
                let n : rehearse_number input records ≡ 0 = sym round_number ∙ z in
                record {
                  told = rw met_is (told_met left right records q) ∙ sym (told_by_done left right n);
                  words = wrote_is ∙ (met_words_done left right lent q ∙ sym (words_by_done left right lent n));
                }
