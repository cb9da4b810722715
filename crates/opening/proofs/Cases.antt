-- The worked costs hold (`table` of specs/Cases): E tells what is wanted, and the round of an empty store and these keys makes as many deliveries, by computing
-- both. So does what the call returns. Assumes nothing.
use mathlib.Core.List.{map}
use mathlib.Core.Path.{◌≡◌, refl}
use Rattle.claims.specs.Reply.{third, answer}
use Rattle.rule.specs.Round.{run, run_all, half, round_of}
use Rattle.opening.specs.Cost.{opening_cost}
use Rattle.opening.specs.Call.{costed}
use Rattle.opening.specs.Cases.{Row, cost_told, cost_made, table, Called, calls}

pub costs_hold : map cost_told table ≡ map (λ (r : Row). r.wanted) table
unfolding opening_cost
costs_hold = refl

pub rounds_hold : map cost_made table ≡ map (λ (r : Row). r.wanted) table
unfolding third answer run run_all half round_of
rounds_hold = refl

pub calls_hold : map (λ (c : Called). c.gives) calls ≡ map (λ (c : Called). c.wanted) calls
unfolding opening_cost costed
calls_hold = refl
