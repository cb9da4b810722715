-- `keys::leaf::rising` meets its contract. Assumes nothing.
use Rattle.std.proofs.Common.{ltb, rules}
use Rattle.std.proofs.lemmas.List.Sorted.{answers_always}
use Rattle.keys.proofs.LeafPaths.{rising_told}
use Rattle.keys.proofs.leaf.rising.Goals as goal

pub returns : goal.returns
returns c = rising_told c.args.keys.now c.is_sorted_by.result (c.is_sorted_by.ensures.cases ltb (answers_always _ _ _ (λ f a r g h. search rules)))
