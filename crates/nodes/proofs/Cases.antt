-- A lent node that takes the claim of case l is refused with 2, and is what it was: by computing. Assumes nothing.
use mathlib.Core.Path.{◌≡◌, refl}
use Rattle.keys.specs.Store.{zeros, store_of}
use Rattle.keys.specs.Lent.{place_in, add_both_in}
use Rattle.claims.specs.Lent.{hear_in}
use Rattle.rule.specs.Node.{blanks, node_of}
use Rattle.nodes.specs.Lent.{take_in}
use Rattle.nodes.specs.Cases.{small, case_l}

pub case_l_taken : case_l ≡ record { number = 2; node = small }
unfolding zeros store_of blanks node_of place_in add_both_in hear_in take_in
case_l_taken = refl
