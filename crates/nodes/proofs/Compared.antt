-- Two claims compared as the code compares them, by the order that `Claim` derives: what each test says by `before`, which is the order of a table, and by
-- `same`. Assumes nothing.
use Rattle.std.proofs.Common.{◌≡◌, Bool, cond, not, arith}
use Rattle.std.proofs.lemmas.Grind.{common_steps}
use Rattle.std.specs.Ordering.{partial_lt, partial_le, ord_min}
use Rattle.claims.specs.contracts.claim.ClaimOrd.TheImpl as ord
use Rattle.claims.specs.contracts.claim.ClaimPartialEq.TheImpl as partial_eq
use Rattle.claims.specs.contracts.claim.ClaimPartialOrd.TheImpl as partial_ord
use Rattle.claims.specs.declared.claim.Claim.{Claim}
use Rattle.claims.specs.Reply.{same}
use Rattle.rule.specs.Table.{before}

pub lt_before : (c d : Claim) {r : Bool} → r ≡ partial_lt partial_ord.partial_cmp-value.it c d → r ≡ before c d
lt_before c d e = grind (arith, common_steps)

pub le_before : (c d : Claim) {r : Bool} → r ≡ partial_le partial_ord.partial_cmp-value.it c d → r ≡ not (before d c)
le_before c d e = grind (arith, common_steps)

pub min_before : (c d : Claim) {r : Claim} → r ≡ ord_min ord.cmp-value.it c d → r ≡ cond (before d c) d c
min_before c d e = grind (arith, common_steps)

pub eq_same : (c d : Claim) {r : Bool} → r ≡ partial_eq.eq-value.it c d → r ≡ same c d
eq_same c d e = grind (arith, common_steps)
