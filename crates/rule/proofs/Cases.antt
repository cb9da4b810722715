-- The worked examples of specs/Cases follow from the definitions: one law for all rows. Assumes nothing.
use mathlib.Core.List.{map}
use mathlib.Core.Path.{◌≡◌, refl}
use Rattle.keys.specs.Store.{zeros, store_of, empty_store, in_order}
use Rattle.keys.specs.Place.{put_at}
use Rattle.claims.specs.Reply.{third, answer}
use Rattle.claims.specs.Call.{judged, judged_formerly}
use Rattle.rule.specs.Node.{blanks, node_of, empty_node, saved_in_order, node_in_order}
use Rattle.rule.specs.Round.{run, run_all, half, round_of}
use Rattle.rule.specs.Call.{taken, beaten, beaten_lent, joined, met, met_lent, met_words}
use Rattle.rule.specs.Cases.{Row, rows}

pub cases_hold : map (λ (r : Row). r.gives) rows ≡ map (λ (r : Row). r.wanted) rows
unfolding zeros store_of empty_store in_order put_at third answer judged judged_formerly blanks node_of empty_node saved_in_order node_in_order
    run run_all half round_of taken beaten beaten_lent joined met met_lent met_words
cases_hold = refl
