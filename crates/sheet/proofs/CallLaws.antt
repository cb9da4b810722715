-- What the calls tell (specs/Call), by their number: of a lent run of keys that is no longer than a store. Assumes nothing.
use Prim.Native.Nat.{ℕ, ◌≤◌}
use mathlib.Core.List.{List, [], ◌∷◌}
use mathlib.Core.Path.{◌≡◌, refl, ap, sym, ◌∙◌}
use borrow.Author.Tests.{le-leb, leb-true}
use lib.Dec.{lit<}
use lib.ListN.{length}
use Rattle.keys.specs.Store.{limit}
use Rattle.keys.specs.Place.{put_at}
use Rattle.claims.specs.Question.{first_no}
use Rattle.claims.proofs.QuestionLaws.{first_no_zero, settle_done, settle_refused, settle_number}
use Rattle.wire.specs.Answer.{Length}
use Rattle.wire.specs.Length.{no_length}
use Rattle.sheet.specs.Sheet.{sheet_text}
use Rattle.sheet.specs.Call.{sheet_question15, write_sheet_in_questions, write_sheet_in, sheet_in_lent}

module _ (l : List ℕ) (few : length l ≤ limit) where
  -- 15 is all that is asked
  in_asked : (room : ℕ) → first_no (write_sheet_in_questions l room) ≡ first_no (sheet_question15 l room ∷ [])
  in_asked room = rw (le-leb (length l) limit few)

  module _ (room : ℕ) where
    done : Length
    done = record { number = 0; length = length (sheet_text l) }

    pub write_sheet_in_number : (write_sheet_in l room).number ≡ first_no (sheet_question15 l room ∷ [])
    unfolding write_sheet_in done
    write_sheet_in_number = settle_number (λ (x : Length). x.number) (first_no (write_sheet_in_questions l room)) done no_length refl (λ k. refl) ∙ in_asked room

    module _ (yes : first_no (sheet_question15 l room ∷ []) ≡ 0) where
      pub write_sheet_in_length : (write_sheet_in l room).length ≡ length (sheet_text l)
      unfolding write_sheet_in done
      write_sheet_in_length = ap (λ (x : Length). x.length) (settle_done (first_no (write_sheet_in_questions l room)) done no_length (in_asked room ∙ yes))

      pub sheet_fits : length (sheet_text l) ≤ room
      sheet_fits = leb-true (length (sheet_text l)) room (first_no_zero (sheet_question15 l room) [] (lit< tt) yes).0

  module _ (out : List ℕ) where
    pub sheet_in_lent_done : first_no (sheet_question15 l (length out) ∷ []) ≡ 0 → sheet_in_lent l out ≡ put_at out 0 (sheet_text l)
    unfolding sheet_in_lent
    sheet_in_lent_done e = settle_done (first_no (write_sheet_in_questions l (length out))) (put_at out 0 (sheet_text l)) (λ k. out) (in_asked (length out) ∙ e)

    pub sheet_in_lent_refused : (first_no (sheet_question15 l (length out) ∷ []) ≡ 0 → ⊥) → sheet_in_lent l out ≡ out
    unfolding sheet_in_lent
    sheet_in_lent_refused f =
        settle_refused (first_no (write_sheet_in_questions l (length out))) (put_at out 0 (sheet_text l)) (λ k. out) (λ z. f (sym (in_asked (length out)) ∙ z))
