-- Pending table and beat (document 01, the section of that name; the paper's Algorithm 1, lines 15 to 36): the order of claims, taking one into
-- the table, two tables in one, serving the table. A table is the list of its claims. Not here: the node that has a table (Node), the calls (Call). Assumes nothing.
use Rattle.std.specs.Prelude.{ℕ, ◌+◌, ◌*◌, Bool, true, false, cond, not, ◌&&◌, List, [], ◌∷◌, ◌++◌, ltb, eqb, take, drop}
use Rattle.claims.specs.declared.claim.Claim.{Claim}
use Rattle.claims.specs.Answer.{Answer}
use Rattle.claims.specs.Claim.{whole_claim}
use Rattle.claims.specs.Reply.{same, answer, case_of, is_asked, claims_of, matches}

-- "up to 64 pending claims"
abbrev pub table_limit : ℕ
table_limit = 64

-- "strictly rising by cnt, then lo, hi, sum": what a claim is ordered by, as one list of words
abbrev pub ranking : Claim → List ℕ
ranking c = c.cnt ∷ c.lo ∷ c.hi ∷ c.sum ∷ []

-- the first words that differ decide
abbrev pub words_before : List ℕ → List ℕ → Bool
words_before [] [] = false
words_before [] (y ∷ ys) = true
words_before (x ∷ xs) [] = false
words_before (x ∷ xs) (y ∷ ys) = cond (eqb x y) (words_before xs ys) (ltb x y)

abbrev pub before : Claim → Claim → Bool
before c d = words_before (ranking c) (ranking d)

-- the claims rise strictly, the first of them from above c
abbrev pub climbs_from : Claim → List Claim → Bool
climbs_from c [] = true
climbs_from c (d ∷ ds) = before c d && climbs_from d ds

-- the claims rise strictly
abbrev pub climbs : List Claim → Bool
climbs [] = true
climbs (c ∷ cs) = climbs_from c cs

-- the claims of a table that pass a test, in their order
abbrev pub those : (Claim → Bool) → List Claim → List Claim
those keeps [] = []
those keeps (c ∷ cs) = cond (keeps c) (c ∷ those keeps cs) (those keeps cs)

-- a claim put in its place, "unless an equal one is pending"
abbrev pub insert_claim : Claim → List Claim → List Claim
insert_claim c [] = c ∷ []
insert_claim c (d ∷ ds) = cond (before d c) (d ∷ insert_claim c ds) (cond (same d c) (d ∷ ds) (c ∷ (d ∷ ds)))

-- "then the claim unless an equal one is pending; of 65 the last in order is dropped"
abbrev pub table_with : Claim → List Claim → List Claim
table_with c t = take table_limit (insert_claim c t)

-- some claims put in their places, one after the other
abbrev pub insert_claims : List Claim → List Claim → List Claim
insert_claims [] t = t
insert_claims (c ∷ cs) t = insert_claims cs (insert_claim c t)

-- Two tables in one: "Its pending claims are those of both, equal ones once, in table order, the first 64 kept." (document 02, slip 9)
abbrev pub joined_table : List Claim → List Claim → List Claim
joined_table s t = take table_limit (insert_claims s t)

-- "Matched and helped claims leave the table; asked ones remain."
abbrev pub remains : Answer → Bool
remains a = is_asked (case_of a).kind

-- what a beat sends for the pending claims, and which of them it keeps
pub record Served : Type 0 where
  pub sent : List Claim
  pub kept : List Claim

-- "the replies to eight pending claims each beat" (document 02, slip 8)
abbrev pub beat_replies : ℕ
beat_replies = 8

-- "In table order, a match leaves the table and doesn't count." (document 02, slip 8) The pending claims but for those, where `answers` tells what each is
-- answered with.
abbrev pub unmatched : (Claim → Answer) → List Claim → List Claim
unmatched answers t = those (λ (c : Claim). not (matches (answers c))) t

-- the claims of the replies to some pending claims, one reply after the other
abbrev pub replies_to : (Claim → Answer) → List Claim → List Claim
replies_to answers [] = []
replies_to answers (c ∷ cs) = claims_of (answers c) ++ replies_to answers cs

-- those of them that remain
abbrev pub asking : (Claim → Answer) → List Claim → List Claim
asking answers t = those (λ (c : Claim). remains (answers c)) t

-- "After eight asked or helped, each remaining claim that doesn't match stays pending and sends nothing." (document 02, slip 8) With n for eight.
abbrev pub serve_unmatched : (Claim → Answer) → ℕ → List Claim → Served
serve_unmatched answers n t = record { sent = replies_to answers (take n t); kept = asking answers (take n t) ++ drop n t }

abbrev pub serve_by : (Claim → Answer) → ℕ → List Claim → Served
serve_by answers n t = serve_unmatched answers n (unmatched answers t)

-- A table served by a store with the keys l: "a beat still adds no key" (document 02, slip 1), so each claim is answered by the keys as they are. A claim of
-- three beside just its ends is asked about and stays: as a match it would leave, and its middle key would not be held.
abbrev pub serve : List ℕ → List Claim → Served
serve l t = serve_by (λ (c : Claim). answer c l) beat_replies t

-- what a beat writes: "the whole claim (none if empty), then in table order each pending claim's reply claims", of those that are replied to
abbrev pub sending : List ℕ → List Claim → List Claim
sending l t = whole_claim l ++ (serve l t).sent

-- "A beat needs 17 places" (document 02, slip 8), whatever is pending: for the whole claim, and for the two claims that a reply has at most
abbrev pub beat_limit : ℕ
beat_limit = 1 + 2 * beat_replies
