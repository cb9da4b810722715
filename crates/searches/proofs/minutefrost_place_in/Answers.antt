-- `searches::minutefrost_place_in` meets its contract. Assumes nothing.
use Rattle.searches.proofs.LibPaths.{place_fits}
use Rattle.searches.proofs.minutefrost_place_in.Goals as goal

pub told_place-requires : goal.told_place-requires
told_place-requires c = search place_fits
