-- `nodes::order::in_order` meets its contract. Assumes nothing.
use Rattle.std.proofs.Common.{rules, sym, ap, ◌∙◌, ◌≡◌, inl, inr}
use Rattle.keys.proofs.PlaceLaws.{slice_rest}
use Rattle.rule.specs.Node.{all_unused}
use Rattle.nodes.specs.declared.order.Order.TheVariants.{Out, Saved, Given}
use Rattle.nodes.proofs.OrderPaths.{ordered_keys, ordered_store, ordered_count, ordered_given, ordered_not}
use Rattle.nodes.proofs.order.in_order.Goals as goal

pub returns-then-not-summed_in-clause-told : goal.returns-then-not-summed_in-clause-told
returns-then-not-summed_in-clause-told c = ordered_store c.args.node.now (search rules) _ c.summed_in.ensures c.if-not-summed_in.true

pub returns-then-count-gt-TABLE-clause-told : goal.returns-then-count-gt-TABLE-clause-told
returns-then-count-gt-TABLE-clause-told c = ordered_count c.args.node.now (search rules) _ c.summed_in.ensures c.if-not-summed_in.false c.if-count-gt-TABLE.true

pub pending-requires : goal.pending-requires
pending-requires c = ordered_keys c.args.node.now (search rules) _ c.summed_in.ensures c.if-not-summed_in.false

pub returns-in-Given-clause-told : goal.returns-in-Given-clause-told
returns-in-Given-clause-told c =
    ordered_given c.args.node.now (search rules) _ c.summed_in.ensures c.if-not-summed_in.false c.if-count-gt-TABLE.false
    _ c.pending.ensures c.in-Given.is _ (c.all_unused.ensures ∙ ap all_unused (slice_rest c.args.node.now.pending.claims c.args.node.now.pending.count))

pub returns-in-Out-clause-told : goal.returns-in-Out-clause-told
returns-in-Out-clause-told c =
    ordered_not c.args.node.now (search rules) _ c.summed_in.ensures c.if-not-summed_in.false c.if-count-gt-TABLE.false
    _ c.pending.ensures (λ e. elim c.in-Out.is [
      | inl h ↦ let g : Out ≡ Given = sym h ∙ e in cc
      | inr h ↦ let g : Saved ≡ Given = sym h ∙ e in cc
    ])
