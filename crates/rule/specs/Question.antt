-- Questions, each with its number when the answer is no (document 01, the section of that name): 1 for nodes, 8, 9 and 15.
-- The others are in `claims`. Assumes nothing.
use Rattle.std.specs.Prelude.{ℕ, ◌*◌, List, leb, length}
use Rattle.keys.specs.Store.{limit}
use Rattle.claims.specs.Question.{Question, question}
use Rattle.rule.specs.declared.node.Node.{Node}
use Rattle.rule.specs.Node.{saved_in_order, node_in_order}
use Rattle.rule.specs.Round.{union}

-- 1. Is every store or node given in order? (Of a node; a store's is in `claims`.)
abbrev pub node_question1 : Node → Question
node_question1 n = question 1 (node_in_order n)

-- 1 of an image already saved, "as before" (document 02, slip 2): of the node that it holds
abbrev pub saved_question1 : Node → Question
saved_question1 n = question 1 (saved_in_order n)

-- 8. Has the union of both stores at most as many keys as the limit? (Of stores with the keys l and r.)
abbrev pub question8 : List ℕ → List ℕ → Question
question8 l r = question 8 (leb (length (union l r)) limit)

-- 9. Has the transcript at least twice as many records as that union has keys?
abbrev pub question9 : List ℕ → List ℕ → ℕ → Question
question9 l r records = question 9 (leb (2 * length (union l r)) records)

-- 15. Is each lent output long enough? (Of one that has so many places and needs so many.)
abbrev pub question15 : ℕ → ℕ → Question
question15 places needed = question 15 (leb needed places)
