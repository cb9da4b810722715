-- Slips from the desk drawer (document 01, the section of that name): the twelve lettered cases, as one table over the call definitions; then rows for the
-- middle key of three, for claims of three that no store could make, and for replies on a lent run. That each row gives what is wanted is one law for each
-- table, in proofs/Cases. Assumes nothing.
use Rattle.std.specs.Prelude.{ℕ, zero, suc, ◌+◌, ◌*◌, ◌-◌, Bool, true, List, [], ◌∷◌}
use Rattle.keys.specs.declared.store.Store.{Store}
use Rattle.keys.specs.Store.{limit, zeros, empty_store, store_of}
use Rattle.keys.specs.Lent.{store_with, marked_all, finish_in}
use Rattle.claims.specs.declared.claim.Claim.{Claim}
use Rattle.claims.specs.Answer.{Answer, Refused, Match, Ask, One, Two, Made, Replied}
use Rattle.claims.specs.Claim.{between}
use Rattle.claims.specs.Reply.{false_match}
use Rattle.claims.specs.Call.{made, replied, judged}
use Rattle.claims.specs.Lent.{reply_in}

-- what a row compares: a reply with its store, a claim that was made, the number of a claim's first no, or whether a match is false
pub data Compared : Type 0 where
  reply_is : Replied → Compared
  claim_is : Made → Compared
  number_is : ℕ → Compared
  false_is : Bool → Compared

pub record Row : Type 0 where
  pub gives : Compared
  pub wanted : Compared

-- "Claims are (lo, hi, sum, cnt)."
abbrev pub claim : ℕ → ℕ → ℕ → ℕ → Claim
claim lo hi sum cnt = record { lo = lo; hi = hi; sum = sum; cnt = cnt }

-- a store hears a claim: the store afterwards, and the answer
abbrev pub hears : Store → Claim → Store → Answer → Row
hears s c t a = record { gives = reply_is (replied s c); wanted = reply_is (record { store = t; answer = a }) }

-- a store with the keys l hears a claim and keeps its keys
abbrev pub keeps : List ℕ → Claim → Answer → Row
keeps l c a = hears (store_of l) c (store_of l) a

-- a store with the keys l makes the claim of positions i to j
abbrev pub makes : List ℕ → ℕ → ℕ → Claim → Row
makes l i j c = record { gives = claim_is (made (store_of l) i j); wanted = claim_is (record { number = 0; claim = c }) }

-- a claim that no store hears, with the number
abbrev pub refuses : Claim → ℕ → Row
refuses c n = record { gives = number_is (judged c); wanted = number_is n }

abbrev pub table : List Row
table =
    -- a. {} hears (7, 7, 7, 1): {7}, match.
    hears empty_store (claim 7 7 7 1) (store_of (7 ∷ [])) Match
    -- b. {} hears (1, 16, 19, 3): "Case b becomes {1, 2, 16} and match." (document 02, slip 1)
    ∷ hears empty_store (claim 1 16 19 3) (store_of (1 ∷ 2 ∷ 16 ∷ [])) Match
    -- c. {1, 4, 16} hears (1, 16, 19, 3): one (4, 4, 4, 1).
    ∷ keeps (1 ∷ 4 ∷ 16 ∷ []) (claim 1 16 19 3) (One (claim 4 4 4 1))
    -- d. {1, 2, 4, 8, 16} hears (1, 16, 17, 2): one (2, 8, 14, 3).
    ∷ keeps (1 ∷ 2 ∷ 4 ∷ 8 ∷ 16 ∷ []) (claim 1 16 17 2) (One (claim 2 8 14 3))
    -- e. {1, 2, 4, 8, 16, 32} hears (1, 32, 33, 2): (2, 8, 14, 3), (16, 16, 16, 1).
    ∷ keeps (1 ∷ 2 ∷ 4 ∷ 8 ∷ 16 ∷ 32 ∷ []) (claim 1 32 33 2) (Two (claim 2 8 14 3) (claim 16 16 16 1))
    -- f. {1, 2, 4, 8, 16, 32, 64} hears (1, 64, 65, 2): (2, 8, 14, 3), (16, 32, 48, 2).
    ∷ keeps (1 ∷ 2 ∷ 4 ∷ 8 ∷ 16 ∷ 32 ∷ 64 ∷ []) (claim 1 64 65 2) (Two (claim 2 8 14 3) (claim 16 32 48 2))
    -- g. {1, 3, 4, 16} hears (1, 16, 22, 4), made from {1, 2, 5, 16}: match, and false.
    ∷ keeps (1 ∷ 3 ∷ 4 ∷ 16 ∷ []) (claim 1 16 22 4) Match
    ∷ makes (1 ∷ 2 ∷ 5 ∷ 16 ∷ []) 0 3 (claim 1 16 22 4)
    ∷ record { gives = false_is (false_match (between 1 16 (1 ∷ 2 ∷ 5 ∷ 16 ∷ [])) (claim 1 16 22 4) (1 ∷ 3 ∷ 4 ∷ 16 ∷ [])); wanted = false_is true }
    -- h. {0}: whole claim (0, 0, 0, 1).
    ∷ makes (0 ∷ []) 0 0 (claim 0 0 0 1)
    -- i. (5, 5, 0, 1): 5.
    ∷ refuses (claim 5 5 0 1) 5
    -- j. (5, 6, 3, 3): 4.
    ∷ refuses (claim 5 6 3 3) 4
    -- k. cnt 0 or the limit plus 1 ("case k's 1,025 becomes 2,049": document 02, slip 6) with lo < hi: 3.
    -- (For every lo < hi and sum: `judged_count` of proofs/Cases.)
    ∷ refuses (claim 5 (2 * limit) 0 0) 3
    ∷ refuses (claim 5 (2 * limit) 0 (limit + 1)) 3
    -- l. (9, 5, 12, 2): 2.
    ∷ refuses (claim 9 5 12 2) 2
    ∷ []

-- ---- the middle key of three (document 02, slip 1)

-- the n numbers from k on
abbrev pub up_from : ℕ → ℕ → List ℕ
up_from k zero = []
up_from k (suc n) = k ∷ up_from (suc k) n

abbrev pub third_table : List Row
third_table =
    -- whichever of the ends is held
    hears (store_of (1 ∷ [])) (claim 1 16 19 3) (store_of (1 ∷ 2 ∷ 16 ∷ [])) Match
    ∷ hears (store_of (16 ∷ [])) (claim 1 16 19 3) (store_of (1 ∷ 2 ∷ 16 ∷ [])) Match
    ∷ hears (store_of (1 ∷ 16 ∷ [])) (claim 1 16 19 3) (store_of (1 ∷ 2 ∷ 16 ∷ [])) Match
    -- own has another key beside lo and hi (case c), or the claim is of four
    ∷ keeps (1 ∷ 4 ∷ 16 ∷ []) (claim 1 16 19 3) (One (claim 4 4 4 1))
    ∷ keeps (1 ∷ 16 ∷ []) (claim 1 16 19 4) (Ask (claim 1 16 17 2))
    -- "and the store has space", after lo and hi were added: with three places left all three fit, with two lo and hi do, with one it is 6
    ∷ hears (store_of (up_from 20 (limit - 3))) (claim 1 16 19 3) (store_of (1 ∷ 2 ∷ 16 ∷ up_from 20 (limit - 3))) Match
    ∷ hears (store_of (up_from 20 (limit - 2))) (claim 1 16 19 3) (store_of (1 ∷ 16 ∷ up_from 20 (limit - 2))) (Ask (claim 1 16 17 2))
    ∷ keeps (up_from 20 (limit - 1)) (claim 1 16 19 3) (Refused 6)
    ∷ []

-- ---- claims of three that no store could make (document 02, slip 2)

abbrev pub faulty_table : List Row
faulty_table =
    -- the middle key would be lo, hi, below lo, above hi: 16
    keeps (1 ∷ 16 ∷ []) (claim 1 16 16 3) (Refused 16)
    ∷ keeps (1 ∷ 16 ∷ []) (claim 1 16 1 3) (Refused 16)
    ∷ keeps (1 ∷ 16 ∷ []) (claim 1 16 17 3) (Refused 16)
    ∷ keeps (1 ∷ 16 ∷ []) (claim 1 16 5 3) (Refused 16)
    -- right beside lo and beside hi it lies between them, and so does the only key that can
    ∷ hears (store_of (1 ∷ 16 ∷ [])) (claim 1 16 19 3) (store_of (1 ∷ 2 ∷ 16 ∷ [])) Match
    ∷ hears (store_of (1 ∷ 16 ∷ [])) (claim 1 16 30 3) (store_of (1 ∷ 15 ∷ 16 ∷ [])) Match
    ∷ hears empty_store (claim 1 3 0 3) (store_of (1 ∷ 2 ∷ 3 ∷ [])) Match
    -- 4 comes before 16 (case j), and 16 before 6
    ∷ refuses (claim 5 6 3 3) 4
    ∷ refuses (claim 1 3 2 3) 16
    ∷ keeps (up_from 20 (limit - 1)) (claim 1 16 5 3) (Refused 16)
    -- of other claims it asks nothing
    ∷ keeps (1 ∷ 16 ∷ []) (claim 1 16 17 2) Match
    ∷ keeps (1 ∷ 16 ∷ []) (claim 1 16 5 4) (Ask (claim 1 16 17 2))
    ∷ []

-- ---- the reply on a lent run, of any content

-- a store hears a claim: the store afterwards, once its sums are all worked out, and the answer
abbrev pub hears_lent : Store → Claim → Store → Answer → Row
hears_lent s c t a = record {
  gives = reply_is (record { store = finish_in (reply_in (marked_all s) c).marked; answer = (reply_in (marked_all s) c).answer });
  wanted = reply_is (record { store = t; answer = a });
}

-- a refusal never writes: with the number n, the store is what it was
abbrev pub unmoved : Store → Claim → ℕ → Row
unmoved s c n = hears_lent s c s (Refused n)

abbrev pub lent_table : List Row
lent_table =
    -- lo above hi, and 3, 4 and 5 answered no as well: 2 is the first
    unmoved (store_of (3 ∷ 5 ∷ 9 ∷ [])) (claim 9 4 0 7) 2
    -- case l
    ∷ unmoved (store_of (3 ∷ 5 ∷ 9 ∷ [])) (claim 9 5 12 2) 2
    -- a run that is out of order and full; and 16 comes before 6
    ∷ unmoved (store_with (zeros limit) limit) (claim 4 7 6 3) 6
    ∷ unmoved (store_with (zeros limit) limit) (claim 4 7 0 3) 16
    -- a full store that has both ends hears a claim of three: 6 is not answered no, and the third key is left out
    ∷ hears_lent (store_of (1 ∷ up_from 16 (limit - 1))) (claim 1 16 19 3) (store_of (1 ∷ up_from 16 (limit - 1))) (Ask (claim 1 16 17 2))
    -- with a place left it comes in
    ∷ hears_lent (store_of (1 ∷ up_from 16 (limit - 2))) (claim 1 16 19 3) (store_of (1 ∷ 2 ∷ up_from 16 (limit - 2))) Match
    ∷ []
