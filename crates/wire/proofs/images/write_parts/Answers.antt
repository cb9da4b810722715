-- `images::write_parts` meets its contract: one law for each way. Assumes nothing.
use Rattle.std.proofs.Common.{length, rules, ◌≡◌}
use Rattle.rule.specs.Table.{table_limit}
use Rattle.nodes.specs.Lent.{node_with}
use Rattle.wire.proofs.ImagePaths.{write_in_1, write_in_15, write_in_room, write_in_done}
use Rattle.wire.proofs.images.write_parts.Goals as goal

pub returns-then-not-within_limits : goal.returns-then-not-within_limits
returns-then-not-within_limits c =
    let a = c.args in
    write_in_1 (node_with a.keys.now a.held a.pending.now) a.out.now c.if-not-within_limits.ensures

pub returns-then-out-length : goal.returns-then-out-length
returns-then-out-length c =
    let a = c.args in
    let all : length a.pending.now.claims ≡ table_limit = search rules in
    write_in_15 (node_with a.keys.now a.held a.pending.now) a.out.now c.if-not-within_limits.ensures all c.length-length.ensures c.if-out-length.true

pub put_image-requires : goal.put_image-requires
put_image-requires c =
    let a = c.args in
    let all : length a.pending.now.claims ≡ table_limit = search rules in
    write_in_room (node_with a.keys.now a.held a.pending.now) a.out.now c.if-not-within_limits.ensures all c.length-length.ensures c.if-out-length.false

pub returns : goal.returns
returns c =
    let a = c.args in
    let all : length a.pending.now.claims ≡ table_limit = search rules in
    write_in_done (node_with a.keys.now a.held a.pending.now) a.out.now c.if-not-within_limits.ensures all c.length-length.ensures c.if-out-length.false
    c.put_image.ensures
