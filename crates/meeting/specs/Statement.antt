-- What demand 3 says of a list of events, in one statement. In order: a key in some store; further rounds of two kiosks; the statement.
-- The order and the union are those that questions 1 and 8 ask about. Assumes nothing.
use Rattle.std.specs.Prelude.{ℕ, ◌+◌, ◌*◌, ◌≤◌, ◌<◌, Bool, true, false, cond, not, ◌&&◌, ◌↔◌, ◌≡◌, length}
use mathlib.Core.List.{List, [], ◌∷◌, ◌++◌, Memᴰ}
use Rattle.keys.specs.Store.{store_of, rising, holds, all_zero, insert_all}
use Rattle.rule.specs.declared.delivery.Delivery.{Delivery}
use Rattle.rule.specs.Node.{node_in_order, node_keys}
use Rattle.rule.specs.Round.{union, any_false}
use Rattle.rule.specs.Call.{met, round_by}
use Rattle.meeting.specs.Event.{Event, enters, makes, delivers, beats, meets, joins}
use Rattle.meeting.specs.World.{World, start, after, after_all, numbers, keys_entered}

-- the keys of kiosk k's store
abbrev pub keys_in : World → ℕ → List ℕ
keys_in w k = node_keys (w.kiosks k)

-- the world at the end of a list of events
abbrev pub end : List Event → World
end es = after_all es start

-- the key x is in some kiosk's store
abbrev pub InSome : ℕ → ℕ → World → Type 0
InSome n x w = (k : ℕ) × (k < n) × Memᴰ x (keys_in w k)

-- the keys entered in a list of events from the start
abbrev pub entered_in : List Event → List ℕ
entered_in es = keys_entered es (numbers es start)

-- how many different keys a list has
abbrev pub different : List ℕ → ℕ
different ks = length (insert_all ks [])

-- the keys of l that r lacks
abbrev pub without : List ℕ → List ℕ → List ℕ
without r [] = []
without r (k ∷ ks) = cond (holds k r) (without r ks) (k ∷ without r ks)

-- how many keys are held by just one of two stores
abbrev pub apart : List ℕ → List ℕ → ℕ
apart l r = length (without r l) + length (without l r)

-- a further round of two kiosks, either on the left, with the records lent to it
pub data Turn : Type 0 where
  straight turned : List Delivery → Turn

abbrev pub rounds : ℕ → ℕ → List Turn → List Event
rounds k m [] = []
rounds k m (straight lent ∷ ts) = meets k m lent ∷ rounds k m ts
rounds k m (turned lent ∷ ts) = meets m k lent ∷ rounds k m ts

-- was a match in the event false? (It is asked of rounds alone.)
abbrev pub false_in : Event → World → Bool
false_in (enters k x) w = false
false_in (makes k i j) w = false
false_in (delivers k to c) w = false
false_in (beats k lent) w = false
false_in (meets k m lent) w = any_false (round_by (w.kiosks k).store (w.kiosks m).store).lines
false_in (joins k m room) w = false

abbrev pub none_false : List Event → World → Bool
none_false [] w = true
none_false (e ∷ es) w = not (false_in e w) && none_false es (after e w)

-- Demand 3, of the list es of events of n kiosks.
pub record Demand3 (n : ℕ) (es : List Event) : Type 0 where
  -- each store rises strictly, ..
  pub rises : (k : ℕ) → k < n → rising (keys_in (end es) k) ≡ true
  -- .. and each node is in order, by the predicate of question 1
  pub ordered : (k : ℕ) → k < n → node_in_order ((end es).kiosks k) ≡ true
  -- a key is in some store exactly when it was entered: "what a list of deliveries leaves is still made only of keys entered" (document 02, slip 1)
  pub exact : (x : ℕ) → InSome n x (end es) ↔ Memᴰ x (entered_in es)
  -- a round at any time, in the list (some events before it, the others from it on) or after it (no others), with any records lent, returns a count
  -- of at most twice the keys in the union of its two stores, the union of question 8, ..
  pub bounded : (before others : List Event) → before ++ others ≡ es → (k m records : ℕ) →
      (met ((end before).kiosks k).store ((end before).kiosks m).store records).deliveries
      ≤ 2 * length (union (keys_in (end before) k) (keys_in (end before) m))
  -- .. and unless it is refused it ends because no claim waits any more, neither from the left one's whole claim nor from the right one's: no delivery
  -- was left out to keep to the count
  pub none_waits : (before others : List Event) → before ++ others ≡ es → (k m records : ℕ) →
      (met ((end before).kiosks k).store ((end before).kiosks m).store records).number ≡ 0 →
      (round_by ((end before).kiosks k).store ((end before).kiosks m).store).waiting ≡ []
  -- two different kiosks, and further rounds of these two, as many as there are keys held by just one of them (or more), either on the left each
  -- time, none refused: if no match in these rounds is false, both end with the union of the two stores before them, in every place of the store
  pub together : (k m : ℕ) → k < n → m < n → (k ≡ m → ⊥) → (ts : List Turn) →
      apart (keys_in (end es) k) (keys_in (end es) m) ≤ length ts →
      all_zero (numbers (rounds k m ts) (end es)) ≡ true →
      none_false (rounds k m ts) (end es) ≡ true →
      (((after_all (rounds k m ts) (end es)).kiosks k).store ≡ store_of (union (keys_in (end es) k) (keys_in (end es) m)))
      × (((after_all (rounds k m ts) (end es)).kiosks m).store ≡ store_of (union (keys_in (end es) k) (keys_in (end es) m)))
