-- `sheet::wall::wall_text` meets its contract. Assumes nothing.
use Rattle.std.proofs.Common.{rules}
use Rattle.sheet.proofs.WallPaths.{wall_no, wall_within, wall_yes}
use Rattle.sheet.proofs.wall.wall_text.Goals as goal

pub shared_ref_as_front-put_whole : goal.shared_ref_as_front-put_whole
shared_ref_as_front-put_whole c = wall_within _ _ c.in-Ok.ensures

pub returns-in-Ok : goal.returns-in-Ok
returns-in-Ok c = wall_yes _ _ c.in-Ok.ensures c.put_whole.ensures

pub returns-in-Err : goal.returns-in-Err
returns-in-Err c = wall_no _ _ c.in-Err.ensures _ _ _ _ (search rules) c.number.type_inv c.number.ensures c.put_refused.ensures.0 c.put_refused.ensures.1
