-- `merging::runs::copy_to` meets its contract. Assumes nothing.
use Rattle.std.proofs.Common.{◌+◌, ◌-◌, ◌≡◌, length, arith}
use Rattle.keys.specs.Place.{put_at}
use Rattle.merging.proofs.runs.copy_to.Goals as goal

pub returns : goal.returns
unfolding put_at
returns c =
    let long : c.args.at + length c.args.run.now - c.args.at ≡ length c.args.run.now = omega arith in
    rw (long, c.copy_from_slice.ensures.after)
