-- What writing the sheet of an image tells and leaves in the buffer: where the image is refused; where it is read, by what writing the sheet of its keys told.
-- Assumes nothing.
use Prim.Native.Nat.{ℕ, ◌*◌, ◌^◌, ◌≤◌, ◌<◌}
use native.Mathlib.Omega.{arith}
use mathlib.Core.List.{List, [], ◌∷◌}
use mathlib.Core.Path.{◌≡◌, refl, ap, sym, ◌∙◌, subst}
use Rattle.std.specs.Prelude.{Result, Ok, Err}
use lib.IntN.{pos}
use lib.ListN.{length, take}
use Rattle.keys.specs.Store.{limit}
use Rattle.keys.specs.Place.{put_at}
use Rattle.claims.specs.declared.refusal.Refusal.{Refusal}
use Rattle.claims.specs.Refusal.{refusal_number}
use Rattle.claims.specs.Question.{Question, first_no}
use Rattle.claims.proofs.QuestionLaws.{first_no_append_no}
use Rattle.claims.proofs.RefusalLaws.{refusal_number_ne, settle_refused_by}
use Rattle.rule.specs.Answer.{Rest}
use Rattle.rule.specs.Node.{node_keys}
use Rattle.wire.specs.Answer.{Length, length_by}
use Rattle.wire.specs.Image.{read_image_questions}
use Rattle.sheet.specs.Sheet.{sheet_text}
use Rattle.sheet.specs.Call.{sheet_question15, write_sheet_in, sheet_in_lent}
use Rattle.sheet.proofs.CallLaws.{write_sheet_in_number, write_sheet_in_length, sheet_fits, sheet_in_lent_done, sheet_in_lent_refused}
use Rattle.host.specs.Call.{minus, node_in, sheet_of, sheet_questions, image_sheet, image_sheet_out}
use Rattle.host.specs.Known.{Loaded, Tells}
use Rattle.host.proofs.LibPaths.{loaded_held, loaded_few, past_image}

module _ (image out : List ℕ) {keys : List ℕ} {r : Rest} (loaded : Loaded image keys r) where
  -- its questions
  abbrev asked : List Question
  asked = sheet_questions image (length out)

  -- what is told, and what the buffer holds then
  abbrev pub Sheeted : List ℕ → Result ℕ Refusal → Type 0
  Sheeted after result = Tells (image_sheet image (length out)) result × (after ≡ image_sheet_out image out)

  refused_told : (e : Refusal) → first_no asked ≡ refusal_number e → Sheeted out (Err e)
  unfolding image_sheet image_sheet_out
  refused_told e q = (
    record { value = sym (settle_refused_by e (pos (length (sheet_of image))) minus q); small = tt },
    sym (settle_refused_by e (put_at out 0 (sheet_of image)) (λ (k : ℕ). out) q),
  )

  -- ---- the image is refused

  module _ (f : r.number ≡ 0 → ⊥) where
    first_no_lem : first_no asked ≡ r.number
    first_no_lem =
        let behind : List Question = sheet_question15 (node_keys (node_in image)) (length out) ∷ [] in
        first_no_append_no (read_image_questions image) behind (λ z. f (loaded.number ∙ z)) ∙ sym loaded.number

  pub sheet_no : (e : Refusal) → r.number ≡ refusal_number e → Sheeted out (Err e)
  sheet_no e f = refused_told e (first_no_lem (λ z. refusal_number_ne e (sym f ∙ z)) ∙ f)

  -- ---- the image is read

  module _ (read : r.number ≡ 0) where
    -- the keys as they are lent
    abbrev held : List ℕ
    held = take r.held keys

    held_is : held ≡ node_keys (node_in image)
    held_is = ap node_keys (loaded.node read)

    pub sheet_part : r.held ≡ length held
    sheet_part = loaded_held image loaded read ∙ ap length (sym held_is)

    few_held : length held ≤ limit
    few_held = omega (arith, sheet_part, loaded_few image loaded read)

    past : first_no asked ≡ first_no (sheet_question15 held (length out) ∷ [])
    past = past_image image loaded read (sheet_question15 (node_keys (node_in image)) (length out) ∷ [])
        ∙ ap (λ (l : List ℕ). first_no (sheet_question15 l (length out) ∷ [])) (sym held_is)

    -- The result is that of writing the sheet of its keys. That no slice is so long is what the kit says of every one, here of one byte to an element.
    pub sheet_written : length out * 1 < 2 ^ 63 → {after : List ℕ} → after ≡ sheet_in_lent held out → (result : Result ℕ Refusal)
        → length_by result ≡ write_sheet_in held (length out) → Sheeted after result
    unfolding image_sheet image_sheet_out
    sheet_written h left (Ok n) wrote =
        let none : first_no (sheet_question15 held (length out) ∷ []) ≡ 0
        = sym (ap (λ (x : Length). x.number) wrote ∙ write_sheet_in_number held few_held (length out)) in
        let size : n ≡ length (sheet_text held) = ap (λ (x : Length). x.length) wrote ∙ write_sheet_in_length held few_held (length out) none in
        let yes : first_no asked ≡ 0 = past ∙ none in (
          record { value = rw (yes, size, held_is) refl; small = omega (arith, size, sheet_fits held few_held (length out) none) },
          left ∙ (sheet_in_lent_done held few_held out none ∙ rw (yes, held_is) refl),
        )
    sheet_written h left (Err e) wrote =
        let no : first_no (sheet_question15 held (length out) ∷ []) ≡ refusal_number e
        = sym (ap (λ (x : Length). x.number) wrote ∙ write_sheet_in_number held few_held (length out)) in
        let kept = left ∙ sheet_in_lent_refused held few_held out (λ z. refusal_number_ne e (sym no ∙ z)) in
        subst (λ (l : List ℕ). Sheeted l (Err e)) (sym kept) (refused_told e (past ∙ no))
