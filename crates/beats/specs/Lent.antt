-- The beat of a node whose keys and sums are lent, for any content: by one equation over the node that its parts make up (`node_by` of `nodes`), as the code
-- carries it out. No store is copied for a claim, and it is no rule of document 01. Question 1 is not its own; where the table cannot be read it says 1.
-- Whatever can be refused is asked before the first write, so a number other than 0 means that node and words are what they were (`beat_in_kept`,
-- `beat_in_lent_kept` of proofs/LentLaws). What it means where the node is in order is said by laws (proofs/LentLaws), by Table and Call of `rule`.
-- In order: the table served; claims in lent words; one pending claim's turn; a table's; the beat. Assumes nothing.
use Rattle.std.specs.Prelude.{◌≡◌, ℕ, ◌+◌, ◌*◌, ◌-◌, ◌/◌, Bool, true, false, cond, List, [], ◌∷◌, ◌++◌, leb, eqb, length, Result}
use Rattle.keys.specs.declared.store.Store.{Store}
use Rattle.keys.specs.Place.{put_at}
use Rattle.claims.specs.declared.claim.Claim.{Claim}
use Rattle.claims.specs.declared.refusal.Refusal.{Refusal}
use Rattle.claims.specs.Refusal.{number_told, value_told}
use Rattle.claims.specs.Answer.{Answer}
use Rattle.claims.specs.Question.{Question, first_no, settle, question}
use Rattle.claims.specs.Reply.{claims_of, matches}
use Rattle.claims.specs.Lent.{make_in, answer_in}
use Rattle.claims.specs.Words.{claim_width}
use Rattle.rule.specs.declared.node.Node.{Node}
use Rattle.rule.specs.declared.node.Table.{Table}
use Rattle.rule.specs.Answer.{Beaten}
use Rattle.rule.specs.Table.{table_limit, beat_replies, beat_limit, Served, serve_by, remains}
use Rattle.rule.specs.Node.{blanks, table_by, pending_of}
use Rattle.rule.specs.Question.{question15}
use Rattle.rule.specs.Call.{claim_words}
use Rattle.nodes.specs.Lent.{node_by}
use Rattle.beats.specs.declared.beats.Turn.{Turn}

-- ---- the table served

-- what a store sends for the claims of a table with n replies, and which of them stay: it adds none of their ends
abbrev pub serve_in : Store → ℕ → List Claim → Served
serve_in s n t = serve_by (answer_in s) n t

-- the whole claim of a store, none where the count is 0
unfoldable pub whole_in : Store → List Claim
whole_in s = cond (eqb s.count 0) [] ((make_in s 0 (s.count - 1)).claim ∷ [])

-- what is written: the whole claim, then the claims of the answers
abbrev pub sending_in : Store → List Claim → List Claim
sending_in s t = whole_in s ++ (serve_in s beat_replies t).sent

-- ---- claims in lent words

-- lent words once some claims are written from the place `at` on
abbrev pub wrote_at : ℕ → List Claim → List ℕ → List ℕ
wrote_at at cs lent = put_at lent (claim_width * at) (claim_words cs)

-- some claims are written from the place `at` on: `next` is the place after them, `after` the words then
pub record Wrote (at : ℕ) (cs : List Claim) (lent : List ℕ) (next : ℕ) (after : List ℕ) : Type 0 where
  pub place : next ≡ at + length cs
  pub words : after ≡ wrote_at at cs lent

-- ---- one pending claim's turn

-- With n replies left, by its answer: what is the case for a match, for a claim that has to wait, and for one that is replied to
abbrev pub in_turn : {A : Type 0} → ℕ → Answer → A → A → A → A
in_turn n a matched waits told = cond (matches a) matched (cond (eqb n 0) waits told)

-- the claims that are sent for it, does it stay, and how many replies are left then
abbrev pub sent_for : ℕ → Answer → List Claim
sent_for n a = in_turn n a [] [] (claims_of a)

abbrev pub stays : ℕ → Answer → Bool
stays n a = in_turn n a false true (remains a)

abbrev pub left_after : ℕ → Answer → ℕ
left_after n a = in_turn n a n n (n - 1)

-- what is sent for it is written from the place `at` on: `turn` is what comes of it, `after` the words then
pub record Turned (at n : ℕ) (a : Answer) (lent : List ℕ) (turn : Turn) (after : List ℕ) : Type 0 where
  pub wrote : Wrote at (sent_for n a) lent turn.written after
  pub stayed : turn.stays ≡ stays n a
  pub left : turn.left ≡ left_after n a

-- ---- a table's turn

-- A table once it is served: its places, how many claims are kept, and the place after those sent. Or the number of the first question answered no, and the
-- table as it was.
pub record Kept : Type 0 where
  pub number : ℕ
  pub table : List Claim
  pub count : ℕ
  pub written : ℕ

-- by the lent table as it is then, and what a call returns: the place after those sent
abbrev pub kept_by : Table → Result ℕ Refusal → Kept
kept_by t r = record { number = number_told r; table = t.claims; count = t.count; written = value_told 0 r }

-- what is kept of a served table, then zeros; how many claims that is; and the place after those sent, if they are written from the place `at` on
unfoldable pub kept_with : ℕ → Served → Kept
kept_with at s = record { number = 0; table = s.kept ++ blanks (table_limit - length s.kept); count = length s.kept; written = at + length s.sent }

-- a table is served, and what is sent is written from the place `at` on: `kept` is what is kept, `after` the words then
pub record ServedAt (at : ℕ) (s : Served) (lent : List ℕ) (kept : Kept) (after : List ℕ) : Type 0 where
  pub result : kept ≡ kept_with at s
  pub words : after ≡ wrote_at at s.sent lent

-- ---- the beat

-- what a beat gives, by keys and sums and what is kept; and what it gives where it is refused
abbrev pub beaten_with : List ℕ → List ℕ → ℕ → Kept → Beaten
beaten_with keys sums held k = record { number = k.number; node = node_by keys sums held (table_by k.table k.count); written = k.written }

abbrev pub unbeaten : Node → ℕ → Beaten
unbeaten n x = record { number = x; node = n; written = 0 }

-- asked is whether the count of pending claims is that of a table, which is a part of question 1; and 15
abbrev pub beat_in_questions : Node → List ℕ → List Question
beat_in_questions n lent = question 1 (leb n.pending.count table_limit) ∷ question15 (length lent / claim_width) beat_limit ∷ []

-- `beat_in`: what it returns ..
unfoldable pub beat_in : Node → List ℕ → Beaten
beat_in n lent =
    settle (first_no (beat_in_questions n lent))
    (beaten_with n.store.keys n.store.sums n.store.count (kept_with (length (whole_in n.store)) (serve_in n.store beat_replies (pending_of n))))
    (unbeaten n)

-- .. and what the lent words hold afterwards
unfoldable pub beat_in_lent : Node → List ℕ → List ℕ
beat_in_lent n lent = settle (first_no (beat_in_questions n lent)) (put_at lent 0 (claim_words (sending_in n.store (pending_of n)))) (λ x. lent)

-- both
pub record BeatsIn (n : Node) (lent : List ℕ) (r : Beaten) (after : List ℕ) : Type 0 where
  pub result : r ≡ beat_in n lent
  pub words : after ≡ beat_in_lent n lent
