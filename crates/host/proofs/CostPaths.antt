-- What `minutefrost_opening_cost` returns: told, or refused; then both of its goals, of any result that tells the cost of the keys. Assumes nothing.
use Prim.Native.Nat.{ℕ, ◌^◌, ◌<◌}
use mathlib.Core.Path.{◌≡◌, refl, ap, sym, ◌∙◌}
use native.Mathlib.Omega.{arith}
use lib.IntN.{pos}
use mir.Syntax.{w64}
use mir.Val.{to_z, of_z}
use Rattle.std.specs.Prelude.{Result, Ok, Err, IfOk}
use Rattle.claims.specs.declared.refusal.Refusal.{Refusal}
use Rattle.claims.specs.Question.{first_no}
use Rattle.claims.proofs.RefusalLaws.{settle_refused_by}
use Rattle.opening.specs.Cost.{opening_cost}
use Rattle.opening.specs.Call.{Costed, costed_by, cost_questions, costed}
use Rattle.opening.proofs.CallLaws.{costed_number, costed_deliveries, costed_few}
use Rattle.host.specs.Call.{minus, opening_told}
use Rattle.host.specs.Known.{told, Tells}
use Rattle.host.proofs.SignPaths.{handed_on}

-- r is what `opening_cost` returned
pub opening_tells : (keys : ℕ) (r : Result ℕ Refusal) → costed_by r ≡ costed keys → Tells (opening_told keys) r
unfolding opening_told
opening_tells keys (Ok n) told =
    let yes : (costed keys).number ≡ 0 = ap (λ (c : Costed). c.number) (sym told) in
    let none : first_no (cost_questions keys) ≡ 0 = sym (costed_number keys) ∙ yes in
    let deliveries : n ≡ (costed keys).deliveries = ap (λ (c : Costed). c.deliveries) told in
    record {
      value = ap pos (deliveries ∙ costed_deliveries keys yes) ∙ rw none refl;
      small = omega (arith, costed_few keys yes);
    }
opening_tells keys (Err e) told =
    let first = sym (costed_number keys) ∙ ap (λ (c : Costed). c.number) (sym told) in
    record { value = sym (settle_refused_by e (pos (opening_cost keys)) minus first); small = tt }

-- ---- the goals of the call, as `search` finds them: r is what is told, be it what `opening_cost` returned or what was made of that

pub opening_small : (keys : ℕ) (r : Result ℕ Refusal) → costed_by r ≡ costed keys → IfOk r (λ n. n < 2 ^ 63)
opening_small keys r cost = (opening_tells keys r cost).small

pub opening_returned : (keys : ℕ) (r : Result ℕ Refusal) → costed_by r ≡ costed keys → to_z w64 (of_z w64 (told r)) ≡ opening_told keys
opening_returned keys r cost = handed_on (opening_tells keys r cost) refl
