-- The calls on lent keys and sums that hear and make claims, for any content of them: each by one equation over the store that they and the count make up
-- (`store_with` of `keys` where no sums are lent, since none is read; `store_by` where they are), as in `keys`, specs/Lent. Question 1 is not theirs, and they
-- are no rule of document 01. Whatever can be refused is asked before the first write, so a number other than 0 means that the store is what it was
-- (`hear_in_kept`, `reply_in_kept` of proofs/LentLaws). What they mean where the store is in order is said by laws (proofs/LentLaws), by the definitions of
-- Store, Claim and Reply. In order: a claim heard; a claim made; the answer; the reply. Assumes nothing.
use Rattle.std.specs.Prelude.{ℕ, Result, Ok, Err, ◌+◌, ◌-◌, ◌≤◌, ◌<◌, min, max, Bool, cond, ◌&&◌, List, [], ◌∷◌, ◌++◌, ltb, leb, eqb, length, get_or}
use Rattle.std.specs.Int.Bits.{bit_xor}
use Rattle.keys.specs.declared.lent.Added.{Added}
use Rattle.keys.specs.declared.store.Store.{Store}
use Rattle.keys.specs.Store.{limit}
use Rattle.keys.specs.Lent.{resummed, store_by, Marked, place_in, store_with, Grown, add_in, add_both_in}
use Rattle.claims.specs.declared.claim.Claim.{Claim}
use Rattle.claims.specs.declared.lent.Told.{Told}
use Rattle.claims.specs.declared.refusal.Refusal.{Refusal}
use Rattle.claims.specs.Refusal.{refusal_number}
use Rattle.claims.specs.Answer.{Answer, Refused, Match, One, Two, said, Made}
use Rattle.claims.specs.Claim.{no_claim, middle_key, middle_inside}
use Rattle.claims.specs.Question.{Question, question, first_no, settle, claim_questions}
use Rattle.claims.specs.Reply.{z_of, decide}

-- ---- a claim heard

-- what is asked where a store hears a claim: 2 to 5 and 16, and 6, whether its ends fit
abbrev pub hear_questions : Store → Claim → List Question
hear_questions s c = claim_questions c ++ (question 6 (add_both_in s c.lo c.hi).fits ∷ [])

-- what hearing gives: the number of the first question answered no, the store then, and where lo and hi stand in it
pub record Hearing : Type 0 where
  pub number : ℕ
  pub store : Store
  pub first : ℕ
  pub last : ℕ

-- refused, with the number n: the store is what it was
abbrev pub unheard : Store → ℕ → Hearing
unheard s n = record { number = n; store = s; first = 0; last = 0 }

-- that, by the run as it is then, how many keys it had before, and what the call returns
abbrev pub hearing_with : List ℕ → ℕ → Result Added Refusal → Hearing
hearing_with keys count (Ok h) = record { number = 0; store = store_with keys h.count; first = h.first; last = h.last }
hearing_with keys count (Err r) = unheard (store_with keys count) (refusal_number r)

-- Does the claim tell a third key to be added? It is of three keys, the ends stand side by side at first and last, and the key lies between them.
abbrev pub tells_third : ℕ → ℕ → Claim → Bool
tells_third first last c = eqb c.cnt 3 && (eqb (last - first) 1 && middle_inside c)

-- the ends as they were added, ..
abbrev pub ends_heard : Grown → Hearing
ends_heard g = record { number = 0; store = g.store; first = g.first; last = g.last }

-- .. and the third key after them: hi stands as many places further on as keys were added
abbrev pub third_heard : Grown → Grown → Hearing
third_heard g t = record { number = 0; store = t.store; first = g.first; last = g.last + (t.store.count - g.store.count) }

-- what hearing gives once the ends are added: a third key that does not fit is left out, and no number says so
abbrev pub heard : Claim → Grown → Hearing
heard c g = cond (tells_third g.first g.last c) (third_heard g (add_in g.store (middle_key c))) (ends_heard g)

-- `hear_in`: what hearing a claim adds, its ends and the middle key of three
unfoldable pub hear_in : Store → Claim → Hearing
hear_in s c = settle (first_no (hear_questions s c)) (heard c (add_both_in s c.lo c.hi)) (unheard s)

-- ---- a claim made

-- "However it is done now, a span's sum is then read from two of them, or from one where the span begins at position 0." (document 02, slip 7)
abbrev pub sum_at : List ℕ → ℕ → ℕ → ℕ
sum_at sums i j = cond (eqb i 0) (get_or sums j 0) (bit_xor (get_or sums j 0) (get_or sums (i - 1) 0))

-- the claim of positions i to j, by keys and sums
abbrev pub claim_by : List ℕ → List ℕ → ℕ → ℕ → Claim
claim_by keys sums i j = record { lo = get_or keys i 0; hi = get_or keys j 0; sum = sum_at sums i j; cnt = j - i + 1 }

-- is first ≤ last < count, within keys, sums and the limit?
abbrev pub within : Store → ℕ → ℕ → Bool
within s first last =
    leb first last
    && (ltb last s.count && (leb s.count (length s.keys) && (leb s.count (length s.sums) && leb s.count limit)))

-- `make_in`: the claim of two positions; 7 where they are not positions
unfoldable pub make_in : Store → ℕ → ℕ → Made
make_in s first last =
    cond (within s first last)
    (record { number = 0; claim = claim_by s.keys s.sums first last })
    (record { number = 7; claim = no_claim })

-- ---- the answer

-- first and last are positions of keys and sums, within the limit
pub record Positions (keys sums : List ℕ) (first last : ℕ) : Type 0 where
  pub rise : first ≤ last
  pub short : last < limit
  pub inside : last < length keys
  pub summed : last < length sums

-- the claims that help: `help` of Reply, by keys and sums
abbrev pub help_by : List ℕ → List ℕ → ℕ → ℕ → Answer
help_by keys sums a b =
    cond (ltb (b - a) 3)
    (One (claim_by keys sums a b))
    (Two (claim_by keys sums a (a + z_of a b)) (claim_by keys sums (a + z_of a b + 1) b))

-- The help of keys among which lo and hi stand at first and last. With no position between them there is nothing to help with: a claim that passed 4
-- and 5 is own.
abbrev pub help_in : List ℕ → List ℕ → ℕ → ℕ → Answer
help_in keys sums first last = cond (ltb (first + 1) last) (help_by keys sums (first + 1) (last - 1)) Match

-- the answer to a claim whose lo and hi stand at first and last
abbrev pub answer_at : List ℕ → List ℕ → ℕ → ℕ → Claim → Answer
answer_at keys sums first last c = decide (claim_by keys sums first last) c (help_in keys sums first last)

-- `answer_in`: the answer to a claim whose lo and hi are sought, and none is added; 1 where they are not found at positions
unfoldable pub answer_in : Store → Claim → Answer
answer_in s c =
    cond (within s (place_in s.keys s.count c.lo).at (place_in s.keys s.count c.hi).at)
    (answer_at s.keys s.sums (place_in s.keys s.count c.lo).at (place_in s.keys s.count c.hi).at c)
    (Refused 1)

-- ---- the reply

-- what hearing a claim gives: its keys are heard, whatever the sums are
abbrev pub heard_by : Marked → Claim → Hearing
heard_by m c = hear_in (store_with m.store.keys m.store.count) c

-- the mark then: where a key was added, at most where lo stands
abbrev pub mark_heard : ℕ → ℕ → ℕ → ℕ → ℕ
mark_heard mark count heard first = cond (eqb heard count) mark (min mark first)

-- the store then, its sums worked out from the mark to hi, and the mark after it
abbrev pub ready_to : Marked → Hearing → ℕ → Marked
ready_to m h mark = record {
  store = store_by h.store.keys (resummed h.store.keys m.store.sums mark (h.last + 1)) h.store.count;
  mark = max mark (h.last + 1);
}

-- what a reply gives: the store, with its mark, and the answer
pub record RepliedIn : Type 0 where
  pub marked : Marked
  pub answer : Answer

-- that, by the store as it is then, the mark as it was, and what the call returns
abbrev pub replied_with : Store → ℕ → Result Told Refusal → RepliedIn
replied_with s mark (Ok t) = record { marked = record { store = s; mark = t.mark }; answer = said t.answer }
replied_with s mark (Err r) = record { marked = record { store = s; mark = mark }; answer = Refused (refusal_number r) }

-- the answer by a store that is ready
abbrev pub answered : Claim → Hearing → Marked → RepliedIn
answered c h m = record { marked = m; answer = answer_at m.store.keys m.store.sums h.first h.last c }

-- `reply_in`: a claim is heard, and answered by the store as it is then
unfoldable pub reply_in : Marked → Claim → RepliedIn
reply_in m c =
    settle (heard_by m c).number
    (answered c (heard_by m c) (ready_to m (heard_by m c) (mark_heard m.mark m.store.count (heard_by m c).store.count (heard_by m c).first)))
    (λ n. record { marked = m; answer = Refused n })
