-- `beats::beats::write_answer` meets its contract. Assumes nothing.
use Rattle.std.proofs.Common.{ap, refl, ◌∙◌}
use mathlib.Core.Logic.{⊎_elim}
use Rattle.claims.specs.Answer.{said, answer_told}
use Rattle.beats.proofs.BeatsPaths.{wrote_none, wrote_one, wrote_two}
use Rattle.beats.proofs.beats.write_answer.Goals as goal

pub returns-in_default : goal.returns-in_default
returns-in_default c = wrote_none _ _ (ap answer_told c.in_default.is) _ _ refl

pub returns-in-Match : goal.returns-in-Match
returns-in-Match c = wrote_none _ _ (ap answer_told c.in-Ok.is ∙ ap said c.in-Match.is) _ _ refl

pub returns-in-Two : goal.returns-in-Two
returns-in-Two c =
    wrote_two _ _ (ap answer_told c.in-Ok.is ∙ ap said c.in-Two.is) _ _ c.requires _ _ refl _ _ c.put_claim.ensures c.put_claim-in-Two.ensures

pub returns-in-Ask : goal.returns-in-Ask
returns-in-Ask c =
    let told = ap answer_told c.in-Ok.is in
    let wrote = c.put_claim-in-Ask.ensures in
    ⊎_elim (λ e. wrote_one _ _ (told ∙ ap said e) _ _ c.requires _ refl _ wrote) (λ e. wrote_one _ _ (told ∙ ap said e) _ _ c.requires _ refl _ wrote) c.in-Ask.is
