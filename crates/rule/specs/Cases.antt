-- Worked examples over the call definitions, as one list of rows: document 01's rehearsal, record by record; the middle key of three; a false match; a 65th
-- claim; a beat; nodes in order and not; a claim of three that no store could make; two nodes in one. That each row gives what is wanted is one law, `cases_hold` of
-- proofs/Cases. Assumes nothing.
use Rattle.std.specs.Prelude.{ℕ, Bool, true, false, List, [], ◌∷◌, ◌++◌, map, drop, replicate}
use Rattle.std.specs.Int.Bits.{bit_xor}
use Rattle.keys.specs.declared.store.Store.{Store}
use Rattle.keys.specs.Store.{limit, store_of, empty_store}
use Rattle.claims.specs.declared.claim.Claim.{Claim}
use Rattle.claims.specs.Cases.{claim, up_from}
use Rattle.claims.specs.Question.{Question, first_no}
use Rattle.rule.specs.declared.node.Node.{Node}
use Rattle.rule.specs.declared.delivery.Delivery.{Delivery}
use Rattle.rule.specs.Answer.{Taken}
use Rattle.rule.specs.Answer.{Beaten}
use Rattle.rule.specs.Answer.{Met}
use Rattle.rule.specs.Node.{node_of, empty_node, telling, saved_in_order, node_in_order}
use Rattle.rule.specs.Round.{any_false}
use Rattle.rule.specs.Call.{taken, beaten, beaten_lent, join_questions, joined, met, met_lent, met_words, round_by}

-- what a row compares
pub data Compared : Type 0 where
  take_is : Taken → Compared
  beat_is : Beaten → Compared
  round_is : Met → Compared
  words_are : List ℕ → Compared
  records_are : List Delivery → Compared
  truth_is : Bool → Compared
  claims_are : List Claim → Compared

pub record Row : Type 0 where
  pub gives : Compared
  pub wanted : Compared

abbrev pub row : Compared → Compared → Row
row a b = record { gives = a; wanted = b }

-- one record: "sender (0 left, 1 right) and claim"
abbrev pub record5 : ℕ → ℕ → ℕ → ℕ → ℕ → Delivery
record5 s lo hi sum cnt = record { sender = s; claim = claim lo hi sum cnt }

-- what stands in the lent places before a call
abbrev pub stale : Delivery
stale = record5 7 7 7 7 7

abbrev pub met_with : ℕ → List ℕ → List ℕ → ℕ → Met
met_with n l r count = record { number = n; left = store_of l; right = store_of r; deliveries = count }

-- "Stores {0, 1, 10} and {0, 5, 6, 10}, tables empty, give in full .."
abbrev pub rehearsed_records : List Delivery
rehearsed_records = record5 0 0 10 11 3 ∷ record5 1 5 6 3 2 ∷ record5 1 0 10 9 4 ∷ record5 0 1 6 2 3 ∷ []

abbrev pub rehearsed_left : Store
rehearsed_left = store_of (0 ∷ 1 ∷ 10 ∷ [])

abbrev pub rehearsed_right : Store
rehearsed_right = store_of (0 ∷ 5 ∷ 6 ∷ 10 ∷ [])

-- two stores whose whole claims match, and are of different keys
abbrev pub alike_left : Store
alike_left = store_of (1 ∷ 2 ∷ 5 ∷ 16 ∷ [])

abbrev pub alike_right : Store
alike_right = store_of (1 ∷ 3 ∷ 4 ∷ 16 ∷ [])

-- claims of the two keys 0 and k, for n numbers k from `from` on
abbrev pub pairs : ℕ → ℕ → List Claim
pairs from n = map (λ (k : ℕ). claim 0 k k 2) (up_from from n)

-- a full table
abbrev pub full_table : List Claim
full_table = pairs 1 64

abbrev pub full_node : Node
full_node = node_of (up_from 0 65) full_table

-- a node whose three pending claims are helped, matched and asked about, in this order
abbrev pub busy_node : Node
busy_node = node_of (1 ∷ 4 ∷ 16 ∷ []) (claim 1 16 19 3 ∷ claim 1 16 21 3 ∷ claim 1 16 20 4 ∷ [])

-- one of whose 13 pending claims the first and the last match; the other eleven can be helped
abbrev pub crowded_node : Node
crowded_node = node_of (up_from 0 13) (pairs 1 12 ++ (claim 0 2 3 3 ∷ []))

-- one whose eight pending claims are each helped with two
abbrev pub amplest_node : Node
amplest_node = node_of (up_from 0 14) (pairs 5 8)

-- nine claims that {0, 16, ..} asks about, told apart by their sums
abbrev pub nine_asked : List Claim
nine_asked = map (λ (s : ℕ). claim 0 16 s 4) (up_from 0 9)

-- a claim of three pending beside just its ends: a store that had no space for the middle key, or an image that the base wrote
abbrev pub three_node : Node
three_node = node_of (1 ∷ 16 ∷ []) (claim 1 16 19 3 ∷ [])

-- a claim of three that no store could make pending beside its ends, as an image saved before 16 came may hold it: its middle key would be 20
abbrev pub faulty_node : Node
faulty_node = node_of (1 ∷ 16 ∷ []) (claim 1 16 5 3 ∷ [])

-- two nodes whose tables have 65 different claims together, 15 of them in both
abbrev pub lower_node : Node
lower_node = node_of (up_from 0 41) (pairs 1 40)

abbrev pub upper_node : Node
upper_node = node_of (0 ∷ up_from 26 40) (pairs 26 40)

-- a node with as many keys as there is space for, from 1 on
abbrev pub packed_node : Node
packed_node = node_of (up_from 1 limit) []

abbrev pub rows : List Row
rows =
    -- the rehearsal of document 01: both stores, the count, every record, as records and as words; the places past it keep their contents
    row (round_is (met rehearsed_left rehearsed_right 10)) (round_is (met_with 0 (0 ∷ 1 ∷ 5 ∷ 6 ∷ 10 ∷ []) (0 ∷ 1 ∷ 5 ∷ 6 ∷ 10 ∷ []) 4))
    ∷ row (records_are (met_lent rehearsed_left rehearsed_right (replicate 10 stale))) (records_are (rehearsed_records ++ replicate 6 stale))
    ∷ row (words_are (met_words rehearsed_left rehearsed_right (replicate 52 7)))
    (words_are (0 ∷ 0 ∷ 10 ∷ 11 ∷ 3 ∷ 1 ∷ 5 ∷ 6 ∷ 3 ∷ 2 ∷ 1 ∷ 0 ∷ 10 ∷ 9 ∷ 4 ∷ 0 ∷ 1 ∷ 6 ∷ 2 ∷ 3 ∷ replicate 32 7))
    ∷ row (truth_is (any_false (round_by rehearsed_left rehearsed_right).lines)) (truth_is false)
    -- one record too few: 9, both stores as given, and nothing written
    ∷ row (round_is (met rehearsed_left rehearsed_right 9)) (round_is (met_with 9 (0 ∷ 1 ∷ 10 ∷ []) (0 ∷ 5 ∷ 6 ∷ 10 ∷ []) 0))
    ∷ row (records_are (met_lent rehearsed_left rehearsed_right (replicate 9 stale))) (records_are (replicate 9 stale))
    -- first come, first served: of two claims that wait, the second is delivered before what follows from the first
    ∷ row (records_are (met_lent (store_of (1 ∷ 128 ∷ [])) (store_of (1 ∷ 2 ∷ 4 ∷ 8 ∷ 16 ∷ 32 ∷ 64 ∷ 128 ∷ [])) (replicate 16 stale)))
    (records_are (record5 0 1 128 129 2 ∷ record5 1 2 16 30 4 ∷ record5 1 32 64 96 2 ∷ record5 0 2 16 18 2 ∷ record5 1 4 8 12 2 ∷ record5 1 1 128 255 8
    ∷ replicate 10 stale))
    -- the middle key of three comes with its claim: 4 is not asked for
    ∷ row (records_are (met_lent (store_of (1 ∷ 32 ∷ [])) (store_of (1 ∷ 2 ∷ 4 ∷ 8 ∷ 16 ∷ 32 ∷ [])) (replicate 12 stale)))
    (records_are (record5 0 1 32 33 2 ∷ record5 1 2 8 14 3 ∷ record5 1 16 16 16 1 ∷ record5 1 1 32 63 6 ∷ replicate 8 stale))
    -- {1, 2, 5, 16} with {1, 3, 4, 16}: both matches are false, and the stores stay unequal
    ∷ row (round_is (met alike_left alike_right 12)) (round_is (met_with 0 (1 ∷ 2 ∷ 5 ∷ 16 ∷ []) (1 ∷ 3 ∷ 4 ∷ 16 ∷ []) 2))
    ∷ row (truth_is (any_false (round_by alike_left alike_right).lines)) (truth_is true)
    -- an empty store makes no whole claim; made of what came, right's is a second delivery
    ∷ row (records_are (met_lent empty_store (store_of (7 ∷ [])) (replicate 2 stale))) (records_are (record5 1 7 7 7 1 ∷ stale ∷ []))
    ∷ row (records_are (met_lent (store_of (7 ∷ [])) empty_store (replicate 2 stale))) (records_are (record5 0 7 7 7 1 ∷ record5 1 7 7 7 1 ∷ []))
    -- a 65th claim that comes last in order is dropped, its lo and hi are added all the same; one that comes first pushes the last one out
    ∷ row (take_is (taken full_node (claim 70 80 (bit_xor 70 80) 2))) (take_is (record { number = 0; node = node_of (up_from 0 65 ++ 70 ∷ 80 ∷ []) full_table }))
    ∷ row (take_is (taken full_node (claim 9 9 9 1)))
    (take_is (record { number = 0; node = node_of (up_from 0 65) (claim 9 9 9 1 ∷ pairs 1 63) }))
    -- a claim that is pending already changes nothing
    ∷ row (take_is (taken full_node (claim 0 9 9 2))) (take_is (record { number = 0; node = full_node }))
    -- taking a claim of three adds its middle key too, where it is pending already as well
    ∷ row (take_is (taken empty_node (claim 1 16 19 3))) (take_is (record { number = 0; node = node_of (1 ∷ 2 ∷ 16 ∷ []) (claim 1 16 19 3 ∷ []) }))
    ∷ row (take_is (taken three_node (claim 1 16 19 3))) (take_is (record { number = 0; node = node_of (1 ∷ 2 ∷ 16 ∷ []) (claim 1 16 19 3 ∷ []) }))
    -- a beat adds no key: such a claim is asked about and stays, and its middle key is not lost
    ∷ row (beat_is (beaten three_node (replicate 68 7))) (beat_is (record { number = 0; node = three_node; written = 2 }))
    ∷ row (words_are (beaten_lent three_node (replicate 68 7))) (words_are (1 ∷ 16 ∷ 17 ∷ 2 ∷ 1 ∷ 16 ∷ 17 ∷ 2 ∷ replicate 60 7))
    -- a beat: the whole claim, then the claims of each reply; the asked claim is kept, the helped one and the matched one are gone
    ∷ row (beat_is (beaten busy_node (replicate 69 7))) (beat_is (record { number = 0; node = node_of (1 ∷ 4 ∷ 16 ∷ []) (claim 1 16 20 4 ∷ []); written = 3 }))
    ∷ row (words_are (beaten_lent busy_node (replicate 69 7))) (words_are (1 ∷ 16 ∷ 21 ∷ 3 ∷ 4 ∷ 4 ∷ 4 ∷ 1 ∷ 1 ∷ 16 ∷ 21 ∷ 3 ∷ replicate 57 7))
    -- eight replies a beat: of 13 pending claims the first and the last match and leave, though the last comes after eight replies; eight are helped, in table
    -- order, and three wait
    ∷ row (beat_is (beaten crowded_node (replicate 68 7))) (beat_is (record { number = 0; node = node_of (up_from 0 13) (pairs 10 3); written = 14 }))
    ∷ row (words_are (beaten_lent crowded_node (replicate 68 7)))
    (words_are (0 ∷ 12 ∷ 12 ∷ 13 ∷ 1 ∷ 1 ∷ 1 ∷ 1 ∷ 1 ∷ 2 ∷ 3 ∷ 2 ∷ 1 ∷ 3 ∷ 0 ∷ 3 ∷ 1 ∷ 3 ∷ 0 ∷ 3 ∷ 4 ∷ 4 ∷ 4 ∷ 1 ∷ 1 ∷ 3 ∷ 0 ∷ 3 ∷ 4 ∷ 5 ∷ 1 ∷ 2
    ∷ 1 ∷ 4 ∷ 4 ∷ 4 ∷ 5 ∷ 6 ∷ 3 ∷ 2 ∷ 1 ∷ 4 ∷ 4 ∷ 4 ∷ 5 ∷ 7 ∷ 4 ∷ 3 ∷ 1 ∷ 5 ∷ 1 ∷ 5 ∷ 6 ∷ 8 ∷ 9 ∷ 3 ∷ replicate 12 7))
    -- .. 17 claims at most
    ∷ row (beat_is (beaten amplest_node (replicate 68 7))) (beat_is (record { number = 0; node = node_of (up_from 0 14) []; written = 17 }))
    -- .. an asked claim counts though it stays: the ninth sends nothing, and a match behind it leaves
    ∷ row (beat_is (beaten (node_of (0 ∷ up_from 16 5) (nine_asked ++ (claim 0 20 20 6 ∷ []))) (replicate 68 7)))
    (beat_is (record { number = 0; node = node_of (0 ∷ up_from 16 5) nine_asked; written = 9 }))
    -- one word too few: 15, whatever is pending
    ∷ row (beat_is (beaten busy_node (replicate 67 7))) (beat_is (record { number = 15; node = busy_node; written = 0 }))
    ∷ row (beat_is (beaten empty_node (replicate 67 7))) (beat_is (record { number = 15; node = empty_node; written = 0 }))
    -- the empty node is in order; one with equal or falling keys is not, nor one with a pending claim whose lo or hi its store lacks
    ∷ row (truth_is (node_in_order empty_node)) (truth_is true)
    ∷ row (truth_is (node_in_order (node_of (5 ∷ 5 ∷ []) []))) (truth_is false)
    ∷ row (truth_is (node_in_order (node_of (6 ∷ 5 ∷ []) []))) (truth_is false)
    ∷ row (truth_is (node_in_order (node_of (1 ∷ 16 ∷ []) (claim 1 16 17 2 ∷ [])))) (truth_is true)
    ∷ row (truth_is (node_in_order (node_of (2 ∷ 16 ∷ []) (claim 1 16 17 2 ∷ [])))) (truth_is false)
    ∷ row (truth_is (node_in_order (node_of (1 ∷ 15 ∷ []) (claim 1 16 17 2 ∷ [])))) (truth_is false)
    -- a claim of three that no store could make: it is not taken; an image may hold it, a node that is given may not
    ∷ row (take_is (taken empty_node (claim 1 16 5 3))) (take_is (record { number = 16; node = empty_node }))
    ∷ row (truth_is (saved_in_order faulty_node)) (truth_is true)
    ∷ row (truth_is (node_in_order faulty_node)) (truth_is false)
    ∷ row (take_is (taken faulty_node (claim 1 1 1 1))) (take_is (record { number = 1; node = faulty_node }))
    ∷ row (beat_is (beaten faulty_node (replicate 68 7))) (beat_is (record { number = 1; node = faulty_node; written = 0 }))
    -- .. and of an image it is left out; a sound claim of three stays, and so does one of four with the same sum
    ∷ row (claims_are (telling (claim 1 16 17 2 ∷ claim 1 16 5 3 ∷ claim 1 16 19 3 ∷ claim 1 16 5 4 ∷ [])))
    (claims_are (claim 1 16 17 2 ∷ claim 1 16 19 3 ∷ claim 1 16 5 4 ∷ []))
    -- an image may not hold it where it is out of order or its lo is not held
    ∷ row (truth_is (saved_in_order (node_of (1 ∷ 16 ∷ []) (claim 1 16 5 3 ∷ claim 1 16 17 2 ∷ [])))) (truth_is false)
    ∷ row (truth_is (saved_in_order (node_of (2 ∷ 16 ∷ []) (claim 1 16 5 3 ∷ [])))) (truth_is false)
    -- two nodes in one: the keys of both, and the claims of both in table order, an equal one once
    ∷ row (take_is (joined (node_of (1 ∷ 4 ∷ 16 ∷ []) (claim 4 4 4 1 ∷ claim 1 16 20 4 ∷ [])) (node_of (1 ∷ 5 ∷ 16 ∷ []) (claim 1 5 4 2 ∷ claim 1 16 20 4 ∷ [])) 9 9))
    (take_is (record { number = 0; node = node_of (1 ∷ 4 ∷ 5 ∷ 16 ∷ []) (claim 4 4 4 1 ∷ claim 1 5 4 2 ∷ claim 1 16 20 4 ∷ []) }))
    -- .. the first 64 of 65 different claims, whichever node is given first
    ∷ row (take_is (joined lower_node upper_node 9 9)) (take_is (record { number = 0; node = node_of (up_from 0 66) (pairs 1 64) }))
    ∷ row (take_is (joined upper_node lower_node 9 9)) (take_is (record { number = 0; node = node_of (up_from 0 66) (pairs 1 64) }))
    -- .. no middle key is added, and a node joined with itself is as it was
    ∷ row (take_is (joined three_node empty_node 9 9)) (take_is (record { number = 0; node = three_node }))
    ∷ row (take_is (joined busy_node busy_node 9 9)) (take_is (record { number = 0; node = busy_node }))
    -- .. asked are 1 and 1, 8, 15, in this order; refused, the first node is as given
    ∷ row (words_are (map (λ (q : Question). q.number) (join_questions three_node empty_node 8 9))) (words_are (1 ∷ 1 ∷ 8 ∷ 15 ∷ []))
    ∷ row (take_is (joined faulty_node three_node 8 9)) (take_is (record { number = 1; node = faulty_node }))
    ∷ row (take_is (joined three_node faulty_node 8 9)) (take_is (record { number = 1; node = three_node }))
    ∷ row (take_is (joined three_node empty_node 8 9)) (take_is (record { number = 15; node = three_node }))
    -- .. 8 of one key too many comes before 15; a key that both hold is none too many
    ∷ row (words_are (first_no (drop 2 (join_questions (node_of (0 ∷ []) []) packed_node 8 9)) ∷ [])) (words_are (8 ∷ []))
    ∷ row (words_are (first_no (drop 2 (join_questions (node_of (5 ∷ []) []) packed_node 8 9)) ∷ [])) (words_are (15 ∷ []))
    ∷ []
