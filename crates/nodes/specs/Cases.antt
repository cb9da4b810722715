-- A refusal never writes: a lent node that takes a claim which document 01's case l refuses. That it gives what is wanted is computed (`case_l_taken` of
-- proofs/Cases). Assumes nothing.
use Rattle.std.specs.Prelude.{[], ◌∷◌}
use Rattle.claims.specs.Cases.{claim}
use Rattle.rule.specs.declared.node.Node.{Node}
use Rattle.rule.specs.Answer.{Taken}
use Rattle.rule.specs.Node.{node_of}
use Rattle.nodes.specs.Lent.{take_in}

abbrev pub small : Node
small = node_of (3 ∷ 5 ∷ 9 ∷ []) []

-- l. (9, 5, 12, 2): 2.
abbrev pub case_l : Taken
case_l = take_in small (claim 9 5 12 2)
