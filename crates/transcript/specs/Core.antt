-- The core of a round on flat words, for any content of the two stores and of the words: what its code does, step by step. It is the interface between
-- our own functions, and no rule of document 01. That it is the round of `rule`, specs/Round, where both stores are in order is a law (proofs/CoreLaws).
-- An end is a store with the mark below which its sums are right (`Marked` of `keys`): a delivery works out those that it reads, and a half ends with all of
-- them. The lent records are the queue itself: those before `head` are delivered, those from `head` to `tail` wait. In order: records in words; records
-- written; one delivery; deliveries until none waits; both halves; the questions; and what the code says of a state. Assumes nothing.
use Rattle.std.specs.Prelude.{◌≡◌, ℕ, zero, suc, ◌+◌, ◌-◌, ◌*◌, cond, List, [], ◌∷◌, ltb, eqb, get_or}
use Rattle.keys.specs.declared.store.Store.{Store}
use Rattle.keys.specs.Store.{keys_of}
use Rattle.keys.specs.Lent.{summed_in, Marked, marked_all, finish_in}
use Rattle.keys.specs.Place.{put_at}
use Rattle.claims.specs.declared.claim.Claim.{Claim}
use Rattle.claims.specs.Reply.{claims_of}
use Rattle.claims.specs.Lent.{make_in, RepliedIn, reply_in}
use Rattle.claims.specs.Words.{claim_at}
use Rattle.claims.specs.Question.{question, first_no}
use Rattle.rule.specs.declared.delivery.Delivery.{Delivery}
use Rattle.rule.specs.Call.{record_width, record_words, records_in}
use Rattle.rule.specs.Question.{question8, question9}
use Rattle.transcript.specs.declared.record.End.{End}
use Rattle.transcript.specs.declared.record.End.TheVariants.{Left, Right}
use Rattle.transcript.specs.declared.flat.Reached.{Reached}

-- ---- records in words

-- the number of an end, which stands in a record as its sender
abbrev pub sender_of : End → ℕ
sender_of Left = 0
sender_of Right = 1

-- who sent a record: 0 is the left end
abbrev pub sender_in : List ℕ → ℕ → ℕ
sender_in words at = get_or words (at * record_width) 0

-- the claim of a record, after its sender; and zeros past the last one
abbrev pub claim_in : List ℕ → ℕ → Claim
claim_in words at = claim_at words (at * record_width + 1)

-- ---- records written, one after the other

-- the words that records are written to, and where the next one goes
pub record Log : Type 0 where
  pub words : List ℕ
  pub tail : ℕ

abbrev pub log_with : List ℕ → ℕ → Log
log_with words tail = record { words = words; tail = tail }

-- the record of a claim from one end
abbrev pub delivery : ℕ → Claim → Delivery
delivery sender c = record { sender = sender; claim = c }

-- a record put last; where there is no place for it nothing changes
unfoldable pub put_record : Log → ℕ → Claim → Log
put_record log sender c =
    cond (ltb log.tail (records_in log.words))
    (log_with (put_at log.words (log.tail * record_width) (record_words (delivery sender c))) (log.tail + 1))
    log

-- several claims of one sender
abbrev pub put_records : Log → ℕ → List Claim → Log
put_records log sender [] = log
put_records log sender (c ∷ cs) = put_records (put_record log sender c) sender cs

-- one end's whole claim, none if it has no keys
unfoldable pub put_whole : Store → Log → ℕ → Log
put_whole s log sender = cond (eqb s.count 0) log (put_record log sender (make_in s 0 (s.count - 1)).claim)

-- ---- the state of the core, and one delivery

pub record Core : Type 0 where
  pub left : Marked
  pub right : Marked
  pub log : Log
  pub head : ℕ

abbrev pub core_of : Marked → Marked → Log → ℕ → Core
core_of left right log head = record { left = left; right = right; log = log; head = head }

-- the first claim waiting
abbrev pub first_waiting : Core → Claim
first_waiting s = claim_in s.log.words s.head

-- it goes from the left end to the right one, which replied `r`
abbrev pub to_right : Core → RepliedIn → Core
to_right s r = core_of s.left r.marked (put_records s.log 1 (claims_of r.answer)) (s.head + 1)

abbrev pub to_left : Core → RepliedIn → Core
to_left s r = core_of r.marked s.right (put_records s.log 0 (claims_of r.answer)) (s.head + 1)

unfoldable pub step : Core → Core
step s = cond (eqb (sender_in s.log.words s.head) 0) (to_right s (reply_in s.right (first_waiting s))) (to_left s (reply_in s.left (first_waiting s)))

-- ---- deliveries until none waits, at most n

unfoldable pub steps : ℕ → Core → Core
steps zero s = s
steps (suc n) s = cond (ltb s.head s.log.tail) (steps n (step s)) s

-- as many as there are records
abbrev pub finish : Core → Core
finish s = steps (records_in s.log.words - s.head) s

-- the end of a half: all sums of both ends are worked out
abbrev pub settled : Core → Core
settled s = core_of (marked_all (finish_in s.left)) (marked_all (finish_in s.right)) s.log s.head

-- ---- both halves

-- the left end's whole claim put first, in words that nothing is written to yet
unfoldable pub opened : Store → Store → List ℕ → Core
opened left right words = core_of (marked_all left) (marked_all right) (put_whole left (log_with words 0) 0) 0

-- the right end's whole claim, made then, put after all that was delivered
unfoldable pub reopened : Core → Core
reopened s = core_of s.left s.right (put_whole s.right.store s.log 1) s.log.tail

unfoldable pub both : Store → Store → List ℕ → Core
both left right words = settled (finish (reopened (settled (finish (opened left right words)))))

-- ---- the questions of a round, put to two stores

unfoldable pub asked : Store → Store → ℕ → ℕ
asked s t records =
    first_no
    (question 1 (summed_in s.keys s.sums s.count)
    ∷ question 1 (summed_in t.keys t.sums t.count)
    ∷ question8 (keys_of s) (keys_of t)
    ∷ question9 (keys_of s) (keys_of t) records
    ∷ [])

-- ---- what the code says of a state: what it returned, and every lent place

-- an end, by its store and the mark below which its sums are right
abbrev pub marked_by : Store → ℕ → Marked
marked_by s mark = record { store = s; mark = mark }

-- the state, by all that is lent
abbrev pub core_by : Store → Store → List ℕ → ℕ → Reached → Core
core_by left right words head r = core_of (marked_by left r.left) (marked_by right r.right) (log_with words r.tail) head

-- what is reached where all sums of both ends are right
abbrev pub settled_at : Store → Store → ℕ → Reached
settled_at left right tail = record { left = left.count; right = right.count; tail = tail }

pub record Stepped (r : Reached) (left right : Store) (words : List ℕ) (s : Core) : Type 0 where
  pub left_is : marked_by left r.left ≡ s.left
  pub right_is : marked_by right r.right ≡ s.right
  pub log_is : log_with words r.tail ≡ s.log
