-- A frame near the limit: the middle key of three that an earlier claim brought is held when 6 is put to the next one. That it comes out so is computed
-- (`near_limit` of proofs/Cases). Assumes nothing.
use Rattle.std.specs.Prelude.{ℕ, ◌-◌, List}
use Rattle.keys.specs.Store.{limit}
use Rattle.claims.specs.declared.claim.Claim.{Claim}
use Rattle.claims.specs.Cases.{claim, up_from}

-- three places are left
abbrev pub three_left : List ℕ
three_left = up_from 20 (limit - 3)

-- a claim that fills them, its middle key last, and one of a new key
abbrev pub three : Claim
three = claim 1 16 19 3

abbrev pub next : Claim
next = claim 7 7 7 1
