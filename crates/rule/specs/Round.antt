-- A round (document 01, the section of that name), over the keys of the two stores. In order: the union; what waits; one delivery; delivering
-- all that waits; a half and the round; what is read off a round: its transcript, and whether a match in it was false.
-- Not here: the questions (Question), what the call returns (Call). Assumes nothing.
use Rattle.std.specs.Prelude.{ℕ, zero, suc, Bool, false, ◌||◌, List, [], ◌∷◌, ◌++◌, map, length}
use Rattle.keys.specs.Store.{insert_all}
use Rattle.claims.specs.declared.claim.Claim.{Claim}
use Rattle.claims.specs.Claim.{whole_claim, between}
use Rattle.claims.specs.Reply.{hear, reply, claims_of, false_match}
use Rattle.rule.specs.declared.delivery.Delivery.{Delivery}

-- "The union of two stores has every key that either holds, once."
abbrev pub union : List ℕ → List ℕ → List ℕ
union l r = insert_all l r

-- "A round has a left and a right store."
pub data End : Type 0 where
  left_end right_end : End

abbrev pub other : End → End
other left_end = right_end
other right_end = left_end

-- "sender (0 left, 1 right)"
abbrev pub sender_number : End → ℕ
sender_number left_end = 0
sender_number right_end = 1

-- the keys of both stores
pub record Pair : Type 0 where
  pub left : List ℕ
  pub right : List ℕ

abbrev pub pair : List ℕ → List ℕ → Pair
pair l r = record { left = l; right = r }

abbrev pub keys_at : End → Pair → List ℕ
keys_at left_end p = p.left
keys_at right_end p = p.right

-- the pair after one end's keys became l
abbrev pub holding : End → List ℕ → Pair → Pair
holding left_end l p = pair l p.right
holding right_end l p = pair p.left l

-- What waits: its sender, its claim, and what the sender held from lo to hi when the claim was made. That last is written nowhere: a false match is
-- told by it.
pub record Entry : Type 0 where
  pub sender : End
  pub claim : Claim
  pub claimed : List ℕ

-- a claim that one end makes when its keys are l
abbrev pub entry : End → List ℕ → Claim → Entry
entry s l c = record { sender = s; claim = c; claimed = between c.lo c.hi l }

-- claims that one end makes when its keys are l wait for the other, in their order
abbrev pub waits : End → List ℕ → List Claim → List Entry
waits s l [] = []
waits s l (c ∷ cs) = entry s l c ∷ waits s l cs

abbrev pub receiver : Entry → End
receiver e = other e.sender

-- the keys of the receiver before the delivery
abbrev pub keys_before : Entry → Pair → List ℕ
keys_before e p = keys_at (receiver e) p

-- both stores after the delivery: the receiver hears the claim
abbrev pub delivered : Entry → Pair → Pair
delivered e p = holding (receiver e) (hear e.claim (keys_before e p)) p

-- "the receiver replies, and the claims of its reply wait for the other end, in their order"
abbrev pub answers : Entry → Pair → List Entry
answers e p = waits (receiver e) (hear e.claim (keys_before e p)) (claims_of (reply e.claim (keys_before e p)))

-- what is noted of a delivery: its record, and whether it was a false match
pub record Line : Type 0 where
  pub delivery : Delivery
  pub is_false : Bool

abbrev pub line : Entry → Pair → Line
line e p = record {
  delivery = record { sender = sender_number e.sender; claim = e.claim };
  is_false = false_match e.claimed e.claim (keys_before e p);
}

-- what delivering comes to: both stores, a line for each delivery, and what still waits
pub record Run : Type 0 where
  pub stores : Pair
  pub lines : List Line
  pub waiting : List Entry

abbrev pub noting : Line → Run → Run
noting x r = record { stores = r.stores; lines = x ∷ r.lines; waiting = r.waiting }

-- "Claims waiting are delivered first come, first served": at most n deliveries.
unfoldable pub run : ℕ → Pair → List Entry → Run
run zero p q = record { stores = p; lines = []; waiting = q }
run (suc n) p [] = record { stores = p; lines = []; waiting = [] }
run (suc n) p (e ∷ q) = noting (line e p) (run n (delivered e p) (q ++ answers e p))

-- Deliveries until none waits. There are never more of them than keys in the union, so this bound cuts nothing off: `run_all_nil`, `run_all_cons`,
-- `run_more` and `half_ends` of proofs/Half say so.
unfoldable pub run_all : Pair → List Entry → Run
run_all p q = run (length (union p.left p.right)) p q

-- one end's whole claim, made now, waits for the other end, and all that follows from it is delivered
unfoldable pub half : End → Pair → Run
half s p = run_all p (waits s (keys_at s p) (whole_claim (keys_at s p)))

-- one run after another: what either leaves waiting still waits
abbrev pub followed : Run → Run → Run
followed a b = record { stores = b.stores; lines = a.lines ++ b.lines; waiting = a.waiting ++ b.waiting }

-- "First the left one's whole claim .. When none waits, the right one's whole claim, made then, goes to the left one likewise."
unfoldable pub round_of : List ℕ → List ℕ → Run
round_of l r = followed (half left_end (pair l r)) (half right_end (half left_end (pair l r)).stores)

-- "Each delivery is written to the next record"
abbrev pub transcript : Run → List Delivery
transcript r = map (λ (x : Line). x.delivery) r.lines

-- was a match among these false?
abbrev pub any_false : List Line → Bool
any_false [] = false
any_false (x ∷ xs) = x.is_false || any_false xs
