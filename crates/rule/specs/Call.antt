-- What taking a claim, a beat, a joining and a round return, for any content of what they are given, and what every lent place holds afterwards: the first
-- question answered no decides, and then the rule. "A refusal returns its number, the given store or node, and zeros for any claim or count. On success,
-- output past what was written keeps its contents." Assumes nothing.
use Rattle.std.specs.Prelude.{ℕ, ◌+◌, ◌/◌, List, [], ◌∷◌, ◌++◌, length}
use Rattle.keys.specs.declared.store.Store.{Store}
use Rattle.keys.specs.Store.{keys_of, store_of}
use Rattle.keys.specs.Place.{put_at}
use Rattle.claims.specs.declared.claim.Claim.{Claim}
use Rattle.claims.specs.Question.{Question, first_no, settle, question1, question6, claim_questions}
use Rattle.claims.specs.Reply.{ends, hear}
use Rattle.claims.specs.Words.{claim_width, words_of}
use Rattle.rule.specs.declared.node.Node.{Node}
use Rattle.rule.specs.declared.delivery.Delivery.{Delivery}
use Rattle.rule.specs.Answer.{Taken}
use Rattle.rule.specs.Answer.{Beaten}
use Rattle.rule.specs.Answer.{Met}
use Rattle.rule.specs.Table.{table_with, joined_table, serve, sending, beat_limit}
use Rattle.rule.specs.Node.{node_keys, pending_of, node_of}
use Rattle.rule.specs.Round.{union, Run, round_of, transcript}
use Rattle.rule.specs.Question.{node_question1, question8, question9, question15}

-- `take` asks 1, 2 to 5, 16 and 6: "6 doesn't count the middle one" (document 02, slip 1).
abbrev pub take_questions : Node → Claim → List Question
take_questions n c = node_question1 n ∷ (claim_questions c ++ (question6 (ends c) (node_keys n) ∷ []))

-- "Taking a claim adds lo and hi, then the claim ..", and with lo and hi what a reply adds: "Taking a claim into the table does the same; a beat still adds
-- no key, and 6 doesn't count the middle one." (document 02, slip 1)
unfoldable pub taken : Node → Claim → Taken
taken n c =
    settle (first_no (take_questions n c))
    (record { number = 0; node = node_of (hear c (node_keys n)) (table_with c (pending_of n)) })
    (λ x. record { number = x; node = n })

-- claims in a lent run of words, one after the other
abbrev pub claim_words : List Claim → List ℕ
claim_words [] = []
claim_words (c ∷ cs) = words_of c ++ claim_words cs

-- `beat` asks 1 and 15, of the places for claims in the words that it is lent.
abbrev pub beat_questions : Node → List ℕ → List Question
beat_questions n lent = node_question1 n ∷ question15 (length lent / claim_width) beat_limit ∷ []

-- "It returns the node and the number written. A beat adds no key."
unfoldable pub beaten : Node → List ℕ → Beaten
beaten n lent =
    settle (first_no (beat_questions n lent))
    (record { number = 0; node = node_of (node_keys n) (serve (node_keys n) (pending_of n)).kept; written = length (sending (node_keys n) (pending_of n)) })
    (λ x. record { number = x; node = n; written = 0 })

unfoldable pub beaten_lent : Node → List ℕ → List ℕ
beaten_lent n lent =
    settle (first_no (beat_questions n lent))
    (put_at lent 0 (claim_words (sending (node_keys n) (pending_of n))))
    (λ x. lent)

-- Two nodes in one (document 02, slip 9): "Its keys are the union. Its pending claims are those of both .." No middle key comes with them.
abbrev pub joined_node : Node → Node → Node
joined_node n m = node_of (union (node_keys n) (node_keys m)) (joined_table (pending_of n) (pending_of m))

-- A joining asks 1 of the first node, then of the second, then 8, then 15, of the room for an image and the room that one needs: "14 and 1 for the first
-- image, then for the second, then 8, then 15" (document 02, slip 9). A node has no bytes, and 14 is not asked of it.
abbrev pub join_questions : Node → Node → ℕ → ℕ → List Question
join_questions n m room needed = node_question1 n ∷ node_question1 m ∷ question8 (node_keys n) (node_keys m) ∷ question15 room needed ∷ []

unfoldable pub joined : Node → Node → ℕ → ℕ → Taken
joined n m room needed =
    settle (first_no (join_questions n m room needed))
    (record { number = 0; node = joined_node n m })
    (λ x. record { number = x; node = n })

-- `round` asks 1 of the left store and of the right one, 8 and 9, of so many records.
abbrev pub round_questions : Store → Store → ℕ → List Question
round_questions s t records =
    question1 s ∷ question1 t ∷ question8 (keys_of s) (keys_of t) ∷ question9 (keys_of s) (keys_of t) records ∷ []

abbrev pub round_by : Store → Store → Run
round_by s t = round_of (keys_of s) (keys_of t)

-- "Returned: both stores and the number of deliveries."
unfoldable pub met : Store → Store → ℕ → Met
met s t records =
    settle (first_no (round_questions s t records))
    (record {
      number = 0;
      left = store_of (round_by s t).stores.left;
      right = store_of (round_by s t).stores.right;
      deliveries = length (round_by s t).lines;
    })
    (λ x. record { number = x; left = s; right = t; deliveries = 0 })

-- The lent records afterwards, as records ..
unfoldable pub met_lent : Store → Store → List Delivery → List Delivery
met_lent s t lent =
    settle (first_no (round_questions s t (length lent)))
    (put_at lent 0 (transcript (round_by s t)))
    (λ x. lent)

-- .. and as words: a record is its sender, then its claim. How many those are, code knows as `Delivery::WORDS`.
abbrev pub record_width : ℕ
record_width = 1 + claim_width

abbrev pub record_words : Delivery → List ℕ
record_words d = d.sender ∷ words_of d.claim

abbrev pub delivery_words : List Delivery → List ℕ
delivery_words [] = []
delivery_words (d ∷ ds) = record_words d ++ delivery_words ds

-- how many records some words have
abbrev pub records_in : List ℕ → ℕ
records_in words = length words / record_width

unfoldable pub met_words : Store → Store → List ℕ → List ℕ
met_words s t lent =
    settle (first_no (round_questions s t (records_in lent)))
    (put_at lent 0 (delivery_words (transcript (round_by s t))))
    (λ x. lent)
