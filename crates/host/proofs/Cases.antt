-- A frame of a claim of three and a claim of one key, for a store with three places left: by computing. Assumes nothing.
use mathlib.Core.List.{[], ◌∷◌}
use mathlib.Core.Path.{◌≡◌, refl}
use Rattle.claims.specs.Question.{first_no}
use Rattle.claims.specs.Reply.{third}
use Rattle.host.specs.Taking.{questions6}
use Rattle.host.specs.Cases.{three_left, three, next}

-- the middle key takes the last place, and the next claim gets 6; the other way round both are taken, and the middle key is left out
pub near_limit : (first_no (questions6 (three ∷ next ∷ []) three_left) ≡ 6) × (first_no (questions6 (next ∷ three ∷ []) three_left) ≡ 0)
unfolding third
near_limit = (refl, refl)
