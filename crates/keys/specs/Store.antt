-- Keys and the store (document 01, the section of that name): the limit, running sums, the keys of a store and the store of keys, in order, entering.
-- A store's keys are a list of numbers; most rules speak of that list, and `keys_of` and `store_of` lead from the store to it and back.
-- Not here: what the call `enter` returns (`claims`, specs/Call). Assumes nothing.
use Rattle.std.specs.Prelude.{ℕ, suc, ◌-◌, Bool, true, false, cond, ◌&&◌, List, [], ◌∷◌, ◌++◌, ◌≡◌, ltb, leb, eqb, length, take, drop, replicate}
use Rattle.std.specs.Int.Bits.{bit_xor}
use Rattle.keys.specs.declared.store.Store.{Store}

-- "A store holds a count from 0 to" the limit and as many places. "The limit becomes 2,048, in stores, in cnt and in unions" (document 02, slip 6).
-- "Questions 3, 6, 8 and 14 use the new limit, and so does the premise on how many keys a list enters": all of them cite this number.
abbrev pub limit : ℕ
limit = 2048

-- a store whose arrays are as long as their type says: so is every store that the code holds
pub record Sized (s : Store) : Type 0 where
  pub keys : length s.keys ≡ limit
  pub sums : length s.sums ≡ limit

-- n places of 0
unfoldable pub zeros : ℕ → List ℕ
zeros n = replicate n 0

-- the keys of a store: its places below the count
abbrev pub keys_of : Store → List ℕ
keys_of s = take s.count s.keys

-- the running sums of the keys l, if the XOR of all keys before them is x
abbrev pub running_from : ℕ → List ℕ → List ℕ
running_from x [] = []
running_from x (k ∷ ks) = bit_xor x k ∷ running_from (bit_xor x k) ks

-- "The store record gains one number for each place: the XOR of all keys up to and with that place" (document 02, slip 7)
abbrev pub running : List ℕ → List ℕ
running l = running_from 0 l

-- the store of some keys: the keys and their running sums, "and 0 in unused places" (document 02, slip 7), to the limit
unfoldable pub store_of : List ℕ → Store
store_of l = record { keys = l ++ zeros (limit - length l); sums = running l ++ zeros (limit - length l); count = length l }

-- "The empty store is" zeros to the limit "with count 0.": the sums of no keys are zeros too
unfoldable pub empty_store : Store
empty_store = record { keys = zeros limit; sums = zeros limit; count = 0 }

-- the keys l rise strictly, the first of them from above k
abbrev pub rises_from : ℕ → List ℕ → Bool
rises_from k [] = true
rises_from k (j ∷ js) = ltb k j && rises_from j js

-- "the keys below the count rise strictly"
abbrev pub rising : List ℕ → Bool
rising [] = true
rising (k ∷ ks) = rises_from k ks

-- every number of a list is 0
abbrev pub all_zero : List ℕ → Bool
all_zero [] = true
all_zero (x ∷ xs) = eqb x 0 && all_zero xs

-- are two lists of keys, or of sums, the same?
abbrev pub same_keys : List ℕ → List ℕ → Bool
same_keys [] [] = true
same_keys [] (k ∷ ks) = false
same_keys (j ∷ js) [] = false
same_keys (j ∷ js) (k ∷ ks) = eqb j k && same_keys js ks

-- are these numbers the running sums of the keys l, and then zeros?
abbrev pub sums_of : List ℕ → List ℕ → Bool
sums_of l sums = same_keys (take (length l) sums) (running l) && all_zero (drop (length l) sums)

-- "It is in order when the count is at most" the limit, "the keys below the count rise strictly and every place from the count on is 0."
-- "A store is in order only if these numbers are right too, which question 1 covers." (document 02, slip 7)
unfoldable pub in_order : Store → Bool
in_order s = leb s.count limit && (rising (keys_of s) && (all_zero (drop s.count s.keys) && sums_of (keys_of s) s.sums))

-- The position of a key in rising keys: how many keys stand before it. "Positions begin at 0."
abbrev pub position : ℕ → List ℕ → ℕ
position k [] = 0
position k (j ∷ js) = cond (ltb j k) (suc (position k js)) 0

-- is the key k among the keys?
abbrev pub holds : ℕ → List ℕ → Bool
holds k [] = false
holds k (j ∷ js) = cond (eqb j k) true (holds k js)

-- "Entering a key puts it in its sorted place; a key already held changes nothing."
abbrev pub insert : ℕ → List ℕ → List ℕ
insert k [] = k ∷ []
insert k (j ∷ js) = cond (ltb j k) (j ∷ insert k js) (cond (eqb j k) (j ∷ js) (k ∷ (j ∷ js)))

-- some keys entered, one after the other
abbrev pub insert_all : List ℕ → List ℕ → List ℕ
insert_all [] l = l
insert_all (k ∷ ks) l = insert_all ks (insert k l)
