-- The questions of a single claim as the code puts them (src/claim.rt): 2 to 5, and then 16. Assumes nothing.
use mathlib.Core.Path.{◌≡◌, sym, ◌∙◌}
use mathlib.Core.Bool.{Bool, true, false, cond, not}
use mathlib.Core.List.{[], ◌∷◌}
use borrow.Author.Tests.{not-true, not-false}
use Rattle.claims.specs.declared.claim.Claim.{Claim}
use Rattle.claims.specs.declared.refusal.Refusal.{Refusal}
use Rattle.claims.specs.Question.{question16, former_questions}
use Rattle.claims.specs.Refusal.{refusal_number}
use Rattle.claims.specs.Call.{judged, judged_formerly}
use Rattle.claims.proofs.QuestionLaws.{first_no_append_zero, first_no_append_no, former_questions_numbered}
use Rattle.claims.proofs.RefusalLaws.{refusal_number_ne}

module _ (c : Claim) where
  pub judged_former : (r : Refusal) → refusal_number r ≡ judged_formerly c → refusal_number r ≡ judged c
  unfolding judged judged_formerly
  judged_former r e = e ∙ sym (first_no_append_no (former_questions c) (question16 c ∷ []) (λ z. refusal_number_ne r (e ∙ z)))

  module _ (pass : 0 ≡ judged_formerly c) (told : Bool) (sixteen : told ≡ (question16 c).yes) where
    judged_rest : judged c ≡ cond told 0 16
    unfolding judged judged_formerly
    judged_rest = first_no_append_zero (former_questions c) (question16 c ∷ []) (former_questions_numbered c) (sym pass) ∙ rw (← sixteen)

    pub judged_16 : not told ≡ true → 16 ≡ judged c
    judged_16 e = sym (judged_rest ∙ rw (not-true told e))

    pub judged_0 : not told ≡ false → 0 ≡ judged c
    judged_0 e = sym (judged_rest ∙ rw (not-false told e))
