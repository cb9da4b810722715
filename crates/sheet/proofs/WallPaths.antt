-- One law for each way that src/wall.rt goes: the image is refused, or the sheet of its keys is put. Assumes nothing.
use Prim.Native.Nat.{ℕ, ◌≤◌, ◌<◌}
use native.Mathlib.Omega.{arith}
use mathlib.Core.Bool.{true}
use mathlib.Core.List.{List}
use mathlib.Core.Path.{◌≡◌, ap, sym, ◌∙◌, subst}
use lib.ListN.{length, take}
use Rattle.keys.specs.Store.{limit, in_order}
use Rattle.keys.proofs.StoreLaws.{in_order_count}
use Rattle.std.specs.Prelude.{Ok, Err}
use Rattle.claims.specs.declared.refusal.Refusal.{Refusal}
use Rattle.claims.specs.Refusal.{refusal_number}
use Rattle.claims.specs.Question.{first_no}
use Rattle.claims.proofs.RefusalLaws.{refusal_number_above}
use Rattle.claims.proofs.QuestionLaws.{settle_done, settle_refused}
use Rattle.rule.specs.declared.node.Node.{Node}
use Rattle.rule.specs.Node.{node_keys}
use Rattle.rule.proofs.NodeLaws.{node_in_order_ordered}
use Rattle.wire.specs.Answer.{Imaged, imaged_by}
use Rattle.wire.specs.Image.{read_image_questions, read_image}
use Rattle.wire.proofs.ImageLaws.{read_image_number}
use Rattle.wire.proofs.ImageTrips.{image_read_ordered}
use Rattle.text.specs.Line.{refused_line}
use Rattle.text.specs.Put.{put_from, end_from, Put}
use Rattle.text.proofs.LineLaws.{length_refused_line}
use Rattle.text.proofs.PutLaws.{put_from_lem}
use Rattle.sheet.specs.Sheet.{sheet_text}
use Rattle.sheet.specs.Call.{sheet_limit}
use Rattle.sheet.specs.Wall.{wall_text}

module _ (image : List ℕ) where
  -- ---- refused

  module _ (r : Refusal) (read : imaged_by (Err r) ≡ read_image image) where
    number_is : refusal_number r ≡ first_no (read_image_questions image)
    number_is = ap (λ (x : Imaged). x.number) read ∙ read_image_number image

    wall_refused : refused_line (refusal_number r) ≡ wall_text image
    unfolding wall_text
    wall_refused =
        let above = refusal_number_above r in
        let some : first_no (read_image_questions image) ≡ 0 → ⊥ = λ z. let none : refusal_number r ≡ 0 = number_is ∙ z in omega arith in
        ap refused_line number_is
        ∙ sym (settle_refused (first_no (read_image_questions image)) (sheet_text (node_keys (read_image image).node)) refused_line some)

    pub wall_no : (s t : List ℕ) (n number : ℕ) → length s ≡ sheet_limit → number < 256 → number ≡ refusal_number r → n ≡ end_from s 0 (refused_line number)
        → t ≡ put_from s 0 (refused_line number) → Put s 0 (wall_text image) sheet_limit n t
    wall_no s t n number long small told e f =
        let short = length_refused_line number (omega arith) in
        rw (ap refused_line told ∙ wall_refused) at (put_from_lem s 0 (refused_line number) {most = sheet_limit} e f (omega arith) (omega arith))

  -- ---- read

  module _ (node : Node) (read : imaged_by (Ok node) ≡ read_image image) where
    ordered : in_order node.store ≡ true
    ordered =
        subst (λ (x : Imaged). in_order x.node.store ≡ true) (sym read)
        (node_in_order_ordered (read_image image).node (image_read_ordered image (sym (ap (λ (x : Imaged). x.number) read)))).store

    pub wall_within : node.store.count ≤ limit
    wall_within = in_order_count node.store ordered

    wall_sheet : sheet_text (node_keys node) ≡ wall_text image
    unfolding wall_text
    wall_sheet =
        ap (λ (x : Imaged). sheet_text (node_keys x.node)) read
        ∙ sym (settle_done (first_no (read_image_questions image)) (sheet_text (node_keys (read_image image).node)) refused_line
        (sym (ap (λ (x : Imaged). x.number) read ∙ read_image_number image)))

    pub wall_yes : {s t : List ℕ} {n : ℕ} → Put s 0 (sheet_text (take node.store.count node.store.keys)) sheet_limit n t
        → Put s 0 (wall_text image) sheet_limit n t
    wall_yes p = rw wall_sheet at p
