-- Questions, each with its number when the answer is no (document 01, the section of that name; document 02): 1 to 7, 16, 17, and the first answered no.
-- A call's questions are a list in the order in which they are put. Assumes nothing.
use Rattle.std.specs.Prelude.{ℕ, ◌+◌, ◌-◌, Bool, true, cond, ◌&&◌, List, [], ◌∷◌, ◌++◌, ltb, leb, eqb, length}
use Rattle.std.specs.Int.Bits.{bit_xor}
use Rattle.keys.specs.declared.store.Store.{Store}
use Rattle.keys.specs.Store.{limit, in_order, insert_all}
use Rattle.claims.specs.declared.claim.Claim.{Claim}
use Rattle.claims.specs.Claim.{middle_inside}

-- a question that was put: its number, and whether the answer was yes
pub record Question : Type 0 where
  pub number : ℕ
  pub yes : Bool

abbrev pub question : ℕ → Bool → Question
question n b = record { number = n; yes = b }

-- "the number of the first question answered no", or 0 where every answer is yes
abbrev pub first_no : List Question → ℕ
first_no [] = 0
first_no (q ∷ qs) = cond q.yes (first_no qs) q.number

-- what a call returns: `done` where every question was answered yes, and otherwise what a refusal with that number returns
abbrev pub settle : {A : Type 0} → ℕ → A → (ℕ → A) → A
settle n done refused = cond (eqb n 0) done (refused n)

-- 1. Is every store or node given in order? (Of a store; a node's is in `rule`.)
abbrev pub question1 : Store → Question
question1 s = question 1 (in_order s)

-- 2. Is lo ≤ hi?
abbrev pub question2 : Claim → Question
question2 c = question 2 (leb c.lo c.hi)

-- 3. Is cnt from 1 to the limit?
abbrev pub question3 : Claim → Question
question3 c = question 3 (leb 1 c.cnt && leb c.cnt limit)

-- 4. Is cnt 1 when lo = hi, and otherwise from 2 to hi − lo + 1?
abbrev pub question4 : Claim → Question
question4 c = question 4 (cond (eqb c.lo c.hi) (eqb c.cnt 1) (leb 2 c.cnt && leb c.cnt (c.hi - c.lo + 1)))

-- 5. Is sum lo when cnt is 1, and lo XOR hi when cnt is 2?
abbrev pub question5 : Claim → Question
question5 c = question 5 (cond (eqb c.cnt 1) (eqb c.sum c.lo) (cond (eqb c.cnt 2) (eqb c.sum (bit_xor c.lo c.hi)) true))

-- 6. Do the missing ones among the keys to add fit below the limit plus 1? (Into a store that holds the keys l.)
abbrev pub question6 : List ℕ → List ℕ → Question
question6 ks l = question 6 (ltb (length (insert_all ks l)) (limit + 1))

-- 7. Is the first position ≤ the last, and the last below the count?
abbrev pub question7 : ℕ → ℕ → ℕ → Question
question7 i j count = question 7 (leb i j && ltb j count)

-- claims of three that no store could make: "They are now refused." "16, for a claim with cnt 3 and sum XOR lo XOR hi not strictly between lo and hi"
-- (document 02, slip 2)
abbrev pub question16 : Claim → Question
question16 c = question 16 (cond (eqb c.cnt 3) (middle_inside c) true)

-- "17, for n above the limit" (document 02, slip 5): of a number of keys
abbrev pub question17 : ℕ → Question
question17 n = question 17 (leb n limit)

-- the questions that were put to a single claim before 16 came, in order
abbrev pub former_questions : Claim → List Question
former_questions c = question2 c ∷ question3 c ∷ question4 c ∷ question5 c ∷ []

-- the questions of a single claim, in order: 16 is "asked straight after 5" (document 02, slip 2)
abbrev pub claim_questions : Claim → List Question
claim_questions c = former_questions c ++ (question16 c ∷ [])
