-- `searches::minutefrost_places_in` meets its contract. Assumes nothing.
use Rattle.searches.proofs.LibPaths.{place_fits, places_few, places_two}
use Rattle.searches.proofs.minutefrost_places_in.Goals as goal

pub returns-then-told-lt2 : goal.returns-then-told-lt2
returns-then-told-lt2 c = places_few _ _ _ _ _ c.if-told-lt2.true

pub told_place-requires : goal.told_place-requires
told_place-requires c = search place_fits

pub told_place-requires-2 : goal.told_place-requires-2
told_place-requires-2 c = search place_fits

pub returns : goal.returns
returns c =
    places_two _ _ _ _ _ c.if-told-lt2.false c.places_in-places.ensures.0 c.places_in-places.ensures.1 c.told_place.ensures c.told_place-2.ensures
