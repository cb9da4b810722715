-- `keys::store::Store::empty` meets its contract. Assumes nothing.
use Rattle.std.proofs.Common.{refl}
use Rattle.keys.specs.Store.{zeros, empty_store, in_order}
use Rattle.keys.proofs.store.Store.empty.Goals as goal

pub returns : goal.returns
unfolding zeros empty_store in_order
returns c = (refl, refl)
