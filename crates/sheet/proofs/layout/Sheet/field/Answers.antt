-- `sheet::layout::Sheet::field` meets its contract: the key, or spaces. Assumes nothing.
use Rattle.std.proofs.Common.{rules}
use Rattle.sheet.proofs.LayoutPaths.{unused_put, used_fits, used_put}
use Rattle.sheet.proofs.layout.Sheet.field.Goals as goal

pub right-requires : goal.right-requires
right-requires c =
    let h = c.in-Some.ensures.lookup in
    (used_fits _ _ _ h.0 h.1 (c.type_inv.keys _).fits, search rules)

pub returns-in-Some : goal.returns-in-Some
returns-in-Some c = let h = c.in-Some.ensures.lookup in used_put _ _ _ h.0 h.1 c.right.ensures

pub returns-in-None : goal.returns-in-None
returns-in-None c = unused_put _ _ c.in-None.ensures.lookup.0 c.spaces.ensures
