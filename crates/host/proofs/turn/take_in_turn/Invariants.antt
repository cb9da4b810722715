-- `turn::take_in_turn` meets its contract. The invariant: the node is in order, and what it has yet to take decides. Assumes nothing.
use Rattle.std.proofs.Common.{List, drop, true, ◌≡◌, ℕ}
use Rattle.rule.specs.declared.node.Node.{Node}
use Rattle.rule.specs.declared.answer.Rest.{Rest}
use Rattle.rule.specs.Answer.{rest_given}
use Rattle.rule.specs.Node.{node_in_order}
use Rattle.nodes.specs.Lent.{node_held}
use Rattle.wire.specs.Image.{Shaped}
use Rattle.host.specs.Taking.{taken_until}
use Rattle.host.proofs.turn.take_in_turn.Given as goal

-- the node of a run of keys and the rest of it
abbrev pub node : List ℕ → Rest → Node
node keys r = node_held keys (rest_given r)

abbrev pub invariant-loop-claim : goal.invariant-loop-claim
invariant-loop-claim l =
    record {
      shaped : Shaped (node l.keys l.node);
      ordered : node_in_order (node l.keys l.node) ≡ true;
      until : taken_until (node l.initial.keys l.initial.node) l.claims ≡ taken_until (node l.keys l.node) (drop l.claim-index l.claims);
    }
