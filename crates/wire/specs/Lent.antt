-- Calls between our own crates: an image read and written where a node's keys are lent, so that none is copied, and where question 1 is put by `admit_in`
-- of `nodes`, so that a host call pays it once. They are total, and no rule of document 01. What they are by the definitions of Image is said by
-- laws (proofs/LentLaws): `read_image_no`, `read_image_lent`, `write_image_in_write_image`, `image_in_lent_image_lent`. Assumes nothing.
use Rattle.std.specs.Prelude.{ℕ, Bool, ◌&&◌, List, [], ◌∷◌, leb, eqb, length}
use Rattle.keys.specs.Store.{limit}
use Rattle.keys.specs.Place.{put_at}
use Rattle.claims.specs.Question.{Question, question, first_no, settle}
use Rattle.rule.specs.declared.node.Node.{Node}
use Rattle.rule.specs.Answer.{Rest}
use Rattle.rule.specs.Table.{table_limit}
use Rattle.rule.specs.Node.{blanks}
use Rattle.rule.specs.Question.{question15}
use Rattle.nodes.specs.Lent.{rest_of}
use Rattle.wire.specs.Answer.{Length}
use Rattle.wire.specs.Length.{no_length}
use Rattle.wire.specs.Image.{parse, node_from, question14, node_bytes}

abbrev pub no_rest : ℕ → Rest
no_rest number = record { number = number; held = 0; table = blanks table_limit; count = 0 }

-- `read_image_in` asks 14 alone. What it reads beside the keys, and the lent run of keys afterwards
unfoldable pub read_image_in : List ℕ → Rest
read_image_in bs = settle (first_no (question14 bs ∷ [])) (rest_of (node_from (parse bs))) no_rest

unfoldable pub read_image_in_lent : List ℕ → List ℕ → List ℕ
read_image_in_lent bs keys = settle (first_no (question14 bs ∷ [])) (put_at keys 0 (parse bs).keys) (λ k. keys)

-- are all places of the keys there, and both counts not too high?
abbrev pub within_limits : List ℕ → ℕ → ℕ → Bool
within_limits keys held count = eqb (length keys) limit && (leb held limit && leb count table_limit)

-- `write_image_in` asks whether places and counts are those of a node, which is a part of question 1, and 15.
abbrev pub write_image_in_questions : Node → ℕ → List Question
write_image_in_questions n room =
    question 1 (within_limits n.store.keys n.store.count n.pending.count) ∷ question15 room (length (node_bytes n)) ∷ []

unfoldable pub write_image_in : Node → ℕ → Length
write_image_in n room =
    settle (first_no (write_image_in_questions n room))
    (record { number = 0; length = length (node_bytes n) })
    no_length

unfoldable pub image_in_lent : Node → List ℕ → List ℕ
image_in_lent n out = settle (first_no (write_image_in_questions n (length out))) (put_at out 0 (node_bytes n)) (λ k. out)
