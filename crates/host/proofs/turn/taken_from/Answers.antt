-- `turn::taken_from` meets its contract: one law for each way. Assumes nothing.
use Rattle.std.proofs.Common.{refl, ap, sym, Err, ◌∙◌}
use Rattle.std.proofs.lemmas.Result.{err_from_is_err_and}
use Rattle.keys.proofs.LentLaws.{sized_store_with}
use Rattle.claims.proofs.RefusalLaws.{refusal_number_ne}
use Rattle.rule.specs.declared.node.Node.{Node}
use Rattle.rule.proofs.NodeLaws.{length_mapped}
use Rattle.wire.specs.Answer.{Framed}
use Rattle.wire.specs.Frame.{frame_claims}
use Rattle.host.specs.Taking.{taken_until}
use Rattle.host.proofs.LibPaths.{loaded_refused, read_frame_accepted, taken_from_frame, taken_from_turns}
use Rattle.host.proofs.SavePaths.{known_by}
use Rattle.host.proofs.turn.taken_from.Goals as goal

pub returns-in_err-node : goal.returns-in_err-node
returns-in_err-node c =
    let p = err_from_is_err_and c.from_residual.result c.from_residual.ensures.1 in
    rw (p.1, p.2) (loaded_refused _ c.in_err-node.ensures (refusal_number_ne c.in_err-node.field-0.0) _)

pub returns-in_err-frame : goal.returns-in_err-frame
returns-in_err-frame c =
    let p = err_from_is_err_and c.from_residual-in_err-frame.result c.from_residual-in_err-frame.ensures.1 in
    rw (p.1, p.2)
    (taken_from_frame _ c.in_ok-node.ensures refl _ (ap (λ (f : Framed). f.number) c.in_err-frame.ensures) (refusal_number_ne c.in_err-frame.field-0.0))

pub shared_ref_as_front-take_in_turn : goal.shared_ref_as_front-take_in_turn
shared_ref_as_front-take_in_turn c = (read_frame_accepted _ c.in_ok-frame.ensures refl).few

pub take_in_turn-requires : goal.take_in_turn-requires
take_in_turn-requires c =
    let l = c.in_ok-node.ensures in
    record { shaped = record { store = sized_store_with _ _ l.sound.long; pending = search length_mapped }; ordered = l.sound.ordered refl }

pub returns-in_err-take_in_turn : goal.returns-in_err-take_in_turn
returns-in_err-take_in_turn c =
    let p = err_from_is_err_and c.from_residual-in_err-take_in_turn.result c.from_residual-in_err-take_in_turn.ensures.1 in
    let accepted = read_frame_accepted _ c.in_ok-frame.ensures refl in
    let l = c.in_ok-node.ensures in
    let framed = sym (ap (λ (f : Framed). f.number) c.in_ok-frame.ensures) in
    let turned = c.in_err-take_in_turn.ensures in
    let all = rw accepted.claims at turned.taken in
    rw (p.1, p.2)
    (known_by c.take_in_turn.new.node (Err c.in_err-take_in_turn.field-0.0)
    (taken_from_turns _ l refl _ framed
    (all ∙ ap (λ (n : Node). taken_until n (frame_claims c.args.frame.now)) (l.node refl))
    turned.long))

pub returns : goal.returns
returns c =
    let accepted = read_frame_accepted _ c.in_ok-frame.ensures refl in
    let l = c.in_ok-node.ensures in
    let framed = sym (ap (λ (f : Framed). f.number) c.in_ok-frame.ensures) in
    let turned = c.in_ok-take_in_turn.ensures in
    let all = rw accepted.claims at turned.taken in
    taken_from_turns _ l refl _ framed
    (all ∙ ap (λ (n : Node). taken_until n (frame_claims c.args.frame.now)) (l.node refl))
    turned.long
