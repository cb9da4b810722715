-- The kiosks, and the claims made so far (document 01, "Lists of events"). In order: the world and its beginning; what one call returns and makes;
-- the world after events, and their answers; which keys were entered. A call's outcome is read off the call's own definition, refused or not.
-- Not here: which lists are meant (Premise). Assumes nothing.
use Rattle.std.specs.Prelude.{ℕ, zero, suc, cond, List, [], ◌∷◌, ◌++◌, map, eqb, length, take, drop}
use Rattle.keys.specs.declared.store.Store.{Store}
use Rattle.claims.specs.declared.claim.Claim.{Claim}
use Rattle.claims.specs.Reply.{number_of, claims_of}
use Rattle.claims.specs.Call.{entered, made, replied}
use Rattle.claims.specs.Words.{claim_width, from_words}
use Rattle.rule.specs.declared.node.Node.{Node}
use Rattle.rule.specs.declared.delivery.Delivery.{Delivery}
use Rattle.rule.specs.Node.{empty_node}
use Rattle.rule.specs.Call.{taken, beaten, beaten_lent, joined, met, met_lent}
use Rattle.wire.specs.Image.{image_limit}
use Rattle.meeting.specs.Event.{Event, To, enters, makes, delivers, beats, meets, joins}

-- Each kiosk's node, and "the claims made .. as they were then". A list of events of n kiosks names those below n (Premise), and changes no other.
pub record World : Type 0 where
  pub kiosks : ℕ → Node
  pub made : List Claim

-- "At the start there is any number of kiosks, each a node with the empty store and nothing pending, and no claim is made yet."
abbrev pub start : World
start = record { kiosks = λ k. empty_node; made = [] }

-- the kiosks after one kiosk's node became n ..
abbrev pub with_node : ℕ → Node → (ℕ → Node) → ℕ → Node
with_node k n kiosks j = cond (eqb j k) n (kiosks j)

-- .. or its store s, the pending table left as it was
abbrev pub with_store : ℕ → Store → (ℕ → Node) → ℕ → Node
with_store k s kiosks = with_node k (record { store = s; pending = (kiosks k).pending }) kiosks

-- what a call comes to: the number in its answer (0: carried out), the kiosks as it returned them, the claims that it made
pub record Outcome : Type 0 where
  pub number : ℕ
  pub kiosks : ℕ → Node
  pub claims : List Claim

-- the first n claims in a lent run of words
abbrev pub read_claims : ℕ → List ℕ → List Claim
read_claims zero words = []
read_claims (suc n) words = from_words words ∷ read_claims n (drop claim_width words)

-- the claims in the first n of the lent records
abbrev pub read_records : ℕ → List Delivery → List Claim
read_records n records = map (λ (d : Delivery). d.claim) (take n records)

-- "The claims made are those returned by earlier making and replies, or written by earlier beats and rounds."
-- A refused making returns zeros, which are no claim; of the lent places, those below the returned count were written.
unfoldable pub outcome : Event → (ℕ → Node) → Outcome
outcome (enters k x) kiosks =
    let a = entered (kiosks k).store x in
    record { number = a.number; kiosks = with_store k a.store kiosks; claims = [] }
outcome (makes k i j) kiosks =
    let a = made (kiosks k).store i j in
    record { number = a.number; kiosks = kiosks; claims = cond (eqb a.number 0) (a.claim ∷ []) [] }
outcome (delivers k To.reply c) kiosks =
    let a = replied (kiosks k).store c in
    record { number = number_of a.answer; kiosks = with_store k a.store kiosks; claims = claims_of a.answer }
outcome (delivers k To.table c) kiosks =
    let a = taken (kiosks k) c in
    record { number = a.number; kiosks = with_node k a.node kiosks; claims = [] }
outcome (beats k lent) kiosks =
    let a = beaten (kiosks k) lent in
    record { number = a.number; kiosks = with_node k a.node kiosks; claims = read_claims a.written (beaten_lent (kiosks k) lent) }
outcome (meets k m lent) kiosks =
    let a = met (kiosks k).store (kiosks m).store (length lent) in
    record {
      number = a.number;
      kiosks = with_store m a.right (with_store k a.left kiosks);
      claims = read_records a.deliveries (met_lent (kiosks k).store (kiosks m).store lent);
    }
outcome (joins k m room) kiosks =
    let a = joined (kiosks k) (kiosks m) room image_limit in
    record { number = a.number; kiosks = with_node k a.node kiosks; claims = [] }

-- "Each call gets the kiosks as the events before it left them, and nothing else writes them meanwhile."
abbrev pub after : Event → World → World
after e w = record { kiosks = (outcome e w.kiosks).kiosks; made = w.made ++ (outcome e w.kiosks).claims }

abbrev pub after_all : List Event → World → World
after_all [] w = w
after_all (e ∷ es) w = after_all es (after e w)

-- the numbers that the calls answer, in turn
abbrev pub numbers : List Event → World → List ℕ
numbers [] w = []
numbers (e ∷ es) w = (outcome e w.kiosks).number ∷ numbers es (after e w)

-- "A key is entered when a call to enter it wasn't refused: the key is the call's argument, the refusal its answer, and no store is asked."
abbrev pub entered_by : Event → ℕ → List ℕ
entered_by (enters k x) n = cond (eqb n 0) (x ∷ []) []
entered_by (makes k i j) n = []
entered_by (delivers k to c) n = []
entered_by (beats k lent) n = []
entered_by (meets k m lent) n = []
entered_by (joins k m room) n = []

-- the keys entered by events that gave these answers
abbrev pub keys_entered : List Event → List ℕ → List ℕ
keys_entered [] ns = []
keys_entered (e ∷ es) [] = []
keys_entered (e ∷ es) (n ∷ ns) = entered_by e n ++ keys_entered es ns
