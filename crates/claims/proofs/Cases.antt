-- The twelve lettered cases hold, as one table (`cases_hold`; the table is `table` of specs/Cases), by computing both columns. Then the tables of the middle
-- key of three (`third_cases_hold`), of claims of three that no store could make (`faulty_cases_hold`) and of replies on a lent run (`lent_cases_hold`), and
-- two facts beside these: case k for every lo < hi and sum (`judged_count`), and case a seen from its sender (`seven_matches`): a claim of one key matches,
-- and not falsely. Assumes nothing.
use Prim.Native.Nat.{ℕ, ◌+◌, ◌<◌}
use mathlib.Core.List.{[], ◌∷◌, map}
use mathlib.Core.Bool.{false}
use mathlib.Core.Path.{◌≡◌, refl}
use native.Mathlib.Omega.{arith}
use borrow.Author.Tests.{le-leb}
use Rattle.keys.specs.Store.{limit, zeros, store_of, empty_store, in_order}
use Rattle.keys.specs.Place.{put_at}
use Rattle.keys.specs.Lent.{place_in, inserted_at, add_in, add_both_in, resummed}
use Rattle.claims.specs.Answer.{Match}
use Rattle.claims.specs.Claim.{between}
use Rattle.claims.specs.Reply.{third, answer, reply, false_match}
use Rattle.claims.specs.Call.{made, replied, judged}
use Rattle.claims.specs.Lent.{hear_in, reply_in}
use Rattle.claims.specs.Cases.{Row, table, third_table, faulty_table, lent_table, claim}

pub cases_hold : map (λ (r : Row). r.gives) table ≡ map (λ (r : Row). r.wanted) table
unfolding zeros store_of empty_store in_order third answer made replied judged
cases_hold = refl

-- the middle key of three
pub third_cases_hold : map (λ (r : Row). r.gives) third_table ≡ map (λ (r : Row). r.wanted) third_table
unfolding zeros store_of in_order third answer replied
third_cases_hold = refl

-- claims of three that no store could make
pub faulty_cases_hold : map (λ (r : Row). r.gives) faulty_table ≡ map (λ (r : Row). r.wanted) faulty_table
unfolding zeros store_of empty_store in_order third answer replied judged
faulty_cases_hold = refl

-- on a lent run: "A refusal returns .. the given store"; and a third key that does not fit is left out
pub lent_cases_hold : map (λ (r : Row). r.gives) lent_table ≡ map (λ (r : Row). r.wanted) lent_table
unfolding zeros store_of place_in inserted_at resummed put_at add_in add_both_in hear_in reply_in
lent_cases_hold = refl

-- k. cnt 0 or the limit plus 1 "with lo < hi: 3."
pub judged_count : (lo hi sum : ℕ) → lo < hi → (judged (claim lo hi sum 0) ≡ 3) × (judged (claim lo hi sum (limit + 1)) ≡ 3)
unfolding judged
judged_count lo hi sum h = rw (le-leb lo hi (omega arith)) (refl, refl)

-- {7} makes (7, 7, 7, 1), and {} that hears it holds what {7} held: match, and not false.
pub seven_matches : (made (store_of (7 ∷ [])) 0 0 ≡ record { number = 0; claim = claim 7 7 7 1 })
    × (reply (claim 7 7 7 1) [] ≡ Match)
    × (false_match (between 7 7 (7 ∷ [])) (claim 7 7 7 1) [] ≡ false)
unfolding zeros store_of in_order third answer made
seven_matches = (refl, refl, refl)
