-- The claims of a frame, taken by a node one after the other (document 01, "Host calls": "takes each claim in turn"), and question 6 for each of them.
-- Not here: taking a single claim (`taken` of `rule`). Assumes nothing.
use Rattle.std.specs.Prelude.{ℕ, cond, List, [], ◌∷◌, eqb}
use Rattle.claims.specs.declared.claim.Claim.{Claim}
use Rattle.claims.specs.Question.{Question, question6}
use Rattle.claims.specs.Reply.{ends, hear}
use Rattle.rule.specs.declared.node.Node.{Node}
use Rattle.rule.specs.Answer.{Taken}
use Rattle.rule.specs.Call.{taken}

-- "In a frame, 6 is put claim by claim": each time of a store that has heard the claims before, and has the middle key of three that one of them brought.
abbrev pub questions6 : List Claim → List ℕ → List Question
questions6 [] l = []
questions6 (c ∷ cs) l = question6 (ends c) l ∷ questions6 cs (hear c l)

-- "takes each claim in turn": the node afterwards
abbrev pub taken_in_turn : Node → List Claim → Node
taken_in_turn n [] = n
taken_in_turn n (c ∷ cs) = taken_in_turn (taken n c).node cs

-- The same as the code goes: until one is refused. What it says of the two above is a law (`taken_until_number`, `taken_until_node` of proofs/TurnPaths).
abbrev pub taken_until : Node → List Claim → Taken
taken_until n [] = record { number = 0; node = n }
taken_until n (c ∷ cs) = cond (eqb (taken n c).number 0) (taken_until (taken n c).node cs) (taken n c)
