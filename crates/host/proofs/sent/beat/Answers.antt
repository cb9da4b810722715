-- `sent::beat` meets its contract: one law for each way. Assumes nothing.
use Rattle.std.proofs.Common.{refl}
use mathlib.Core.Logic.{⊎_elim}
use Rattle.std.proofs.lemmas.Result.{err_from_is_err_and}
use Rattle.keys.specs.Store.{zeros}
use Rattle.host.proofs.LibPaths.{beaten_image, beaten_out, beaten_frames, beaten_0}
use Rattle.host.proofs.sent.beat.Goals as goal

pub load-requires : goal.load-requires
unfolding zeros
load-requires c = refl

pub returns-in_err-node : goal.returns-in_err-node
returns-in_err-node c =
    let p = err_from_is_err_and c.from_residual.result c.from_residual.ensures.1 in
    rw (p.1, p.2) (beaten_image _ _ _ c.in_err-node.ensures _ refl)

pub returns-then-out-lt-IMAGE : goal.returns-then-out-lt-IMAGE
returns-then-out-lt-IMAGE c =
    let l = c.in_ok-node.ensures in
    ⊎_elim (λ h. beaten_out _ _ _ l refl h) (λ (room, h). beaten_frames _ _ _ l refl room h) c.then-out-lt-IMAGE.either

pub returns : goal.returns
returns c = beaten_0 _ _ _ c.in_ok-node.ensures refl c.if-out-lt-IMAGE.false c.if-frames-lt-FRAMES.false c.send.ensures
