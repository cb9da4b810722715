-- The worked examples of specs/Cases follow from the definitions: one law for each table. Assumes nothing.
use mathlib.Core.List.{map}
use mathlib.Core.Path.{◌≡◌, refl}
use Rattle.keys.specs.Store.{zeros, store_of, empty_store, in_order}
use Rattle.keys.specs.Place.{put_at}
use Rattle.claims.specs.Call.{judged, judged_formerly}
use Rattle.rule.specs.Node.{blanks, node_of, empty_node, saved_in_order, node_in_order}
use Rattle.wire.specs.Number.{number, bytes}
use Rattle.wire.specs.Claim.{claim_bytes, claim_from}
use Rattle.wire.specs.Frame.{head_bytes, frame_bytes, marked, countable, sized, read_frame, write_frame, frame_lent}
use Rattle.wire.specs.Image.{image_bytes, count_fits, counts_fit, told_length, parse, read_image, image_length, write_image, image_lent}
use Rattle.wire.specs.OldLimit.{read_under}
use Rattle.wire.specs.Cases.{Row, table, faulty_table, old_table}

-- all that has to be opened to compute with the calls
opened : Unit {0}
unfolding zeros store_of empty_store in_order judged judged_formerly blanks node_of empty_node saved_in_order node_in_order number bytes claim_bytes claim_from
    head_bytes frame_bytes marked countable sized read_frame write_frame frame_lent put_at
    image_bytes count_fits counts_fit told_length parse read_image image_length write_image image_lent read_under
opened = tt

pub cases_hold : map (λ (r : Row). r.gives) table ≡ map (λ (r : Row). r.wanted) table
unfolding opened
cases_hold = refl

-- claims of three that no store could make
pub faulty_cases_hold : map (λ (r : Row). r.gives) faulty_table ≡ map (λ (r : Row). r.wanted) faulty_table
unfolding opened
faulty_cases_hold = refl

-- images saved under the old limit
pub old_cases_hold : map (λ (r : Row). r.gives) old_table ≡ map (λ (r : Row). r.wanted) old_table
unfolding opened
old_cases_hold = refl
