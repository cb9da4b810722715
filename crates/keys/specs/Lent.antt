-- The calls on a lent run of keys, for any content of the run: what the loops of the crates above use, so that they neither copy a store nor put
-- question 1 again at each step. They are given a run of keys and a count, and no store: question 1 is not theirs, and they are no rule of document 01.
-- What they mean where the run is a store in order is said by laws (proofs/LentLaws), by the definitions of Store. Assumes nothing.
use Rattle.std.specs.Prelude.{ℕ, zero, suc, ◌+◌, ◌-◌, ◌*◌, ◌/◌, Bool, true, false, cond, ◌&&◌, List, ◌∷◌, ◌++◌, ltb, leb, eqb, length, take, drop, get_or, Option, Some, None}
use Rattle.keys.specs.declared.lent.Place.{Place}
use Rattle.keys.specs.declared.lent.Added.{Added}
use Rattle.keys.specs.declared.lent.LentStore.{LentStore}
use Rattle.keys.specs.declared.store.Store.{Store}
use Rattle.keys.specs.Store.{limit, zeros, running_from, running, rising, all_zero, sums_of}
use Rattle.keys.specs.Place.{put_at}

-- is a run of keys with a count that of a store in order?
unfoldable pub ordered_in : List ℕ → ℕ → Bool
ordered_in keys count = leb count limit && (leb count (length keys) && (rising (take count keys) && all_zero (drop count keys)))

-- `summed_in`: is it, with these sums beside the keys?
unfoldable pub summed_in : List ℕ → List ℕ → ℕ → Bool
summed_in keys sums count = ordered_in keys count && sums_of (take count keys) sums

-- Halving: of the `size` keys from `base` on, the half in which the last key that is at most `key` stands; n times over.
abbrev pub halved : ℕ → List ℕ → ℕ → ℕ → ℕ → ℕ
halved zero keys key base size = base
halved (suc n) keys key base size =
    halved n keys key (cond (leb (get_or keys (base + size / 2) 0) key) (base + size / 2) base) (size - size / 2)

-- which of four quarters is kept, of `width` keys each from `base` on: as many of the last three as begin with a key that is at most `key`
abbrev pub quarter_of : List ℕ → ℕ → ℕ → ℕ → ℕ
quarter_of keys key base width =
    cond (leb (get_or keys (base + width) 0) key) 1 0
    + cond (leb (get_or keys (base + width + width) 0) key) 1 0
    + cond (leb (get_or keys (base + width + width + width) 0) key) 1 0

-- Quartering: of the `size` keys from `base` on, the quarter in which the last key that is at most `key` stands; n times over, and halving where fewer
-- than four are left. A quarter is kept with as many keys as the fourth one has, to which the remainder belongs.
abbrev pub quartered : ℕ → List ℕ → ℕ → ℕ → ℕ → ℕ
quartered zero keys key base size = halved size keys key base size
quartered (suc n) keys key base size =
    cond (ltb size 4)
    (halved size keys key base size)
    (quartered n keys key (base + size / 4 * quarter_of keys key base (size / 4)) (size - 3 * (size / 4)))

-- where a key stands, or would stand, from the key found by quartering
abbrev pub place_at : ℕ → ℕ → ℕ → Place
place_at at found key = cond (ltb found key) (record { at = at + 1; held = false }) (record { at = at; held = eqb found key })

-- the place of a key among the first `count` keys; none are searched where the run has fewer
unfoldable pub place_in : List ℕ → ℕ → ℕ → Place
place_in keys count key =
    cond (ltb 0 count && leb count (length keys))
    (place_at (quartered count keys key 0 count) (get_or keys (quartered count keys key 0 count) 0) key)
    (record { at = 0; held = false })

-- the run with x put in at a place, and what stands from there to the count moved up by one: keys here, claims in `nodes`
unfoldable pub inserted_at : {A : Type 0} → ℕ → ℕ → A → List A → List A
inserted_at at count x run = take at run ++ (x ∷ (take (count - at) (drop at run) ++ drop (count + 1) run))

-- how many keys are missing at a place: one where it is not held
abbrev pub lacking : Place → ℕ
lacking p = cond p.held 0 1

-- the run once a key is put in at its place, unless it is held
abbrev pub put_in : Place → ℕ → ℕ → List ℕ → List ℕ
put_in p count key keys = cond p.held keys (inserted_at p.at count key keys)

-- the place q of a greater key, once the lesser one is put in at p
abbrev pub raised : Place → Place → Place
raised p q = record { at = q.at + lacking p; held = q.held }

-- the run once both are put in at their places
abbrev pub put_two : Place → Place → ℕ → ℕ → ℕ → List ℕ → List ℕ
put_two p q count lo hi keys = put_in (raised p q) (count + lacking p) hi (put_in p count lo keys)

-- ---- sums worked out anew

-- the sum of all keys before a place, by the sums: none before the first
abbrev pub sum_before : List ℕ → ℕ → ℕ
sum_before sums at = get_or (0 ∷ sums) at 0

-- `resum_in`: the sums beside the keys from `first` to the count are worked out anew, from the one before them; nothing where there are no such places
unfoldable pub resummed : List ℕ → List ℕ → ℕ → ℕ → List ℕ
resummed keys sums first count =
    cond (leb first count && (leb count (length keys) && leb count limit))
    (put_at sums first (running_from (sum_before sums first) (take (count - first) (drop first keys))))
    sums

-- the store of these parts: a run of keys, sums and a count
abbrev pub store_by : List ℕ → List ℕ → ℕ → Store
store_by keys sums count = record { keys = keys; sums = sums; count = count }

-- the store whose parts are lent
abbrev pub store_lent : LentStore → Store
store_lent s = store_by s.keys.now s.sums.now s.count

-- a store with its sums from a place on worked out anew
abbrev pub renewed_from : ℕ → Store → Store
renewed_from first s = store_by s.keys (resummed s.keys s.sums first s.count) s.count

-- A store of which the sums below a mark are right, as far as they were read; those from there on are worked out once they are read. So each is worked out
-- once for many claims, and not anew at every claim that adds a key below it.
pub record Marked : Type 0 where
  pub store : Store
  pub mark : ℕ

-- a store all of whose sums are right, and one once they are all worked out
abbrev pub marked_all : Store → Marked
marked_all s = record { store = s; mark = s.count }

abbrev pub finish_in : Marked → Store
finish_in m = renewed_from m.mark m.store

-- ---- keys added to the store that a run of keys and a count make up

-- with the sums that belong to them: the calls that are given no sums read none
abbrev pub store_with : List ℕ → ℕ → Store
store_with keys count = record { keys = keys; sums = running (take count keys) ++ zeros (length keys - count); count = count }

-- what adding gives: whether the keys fit, the store then, and where the lesser and the greater one stand in it
pub record Grown : Type 0 where
  pub fits : Bool
  pub store : Store
  pub first : ℕ
  pub last : ℕ

abbrev pub grown : Store → ℕ → ℕ → Grown
grown s first last = record { fits = true; store = s; first = first; last = last }

-- keys that do not fit leave the store as it was
abbrev pub unfit : Store → Grown
unfit s = record { fits = false; store = s; first = 0; last = 0 }

-- that, by the run as it is then, the count before and what the call returns
abbrev pub grown_with : List ℕ → ℕ → Option Added → Grown
grown_with keys count (Some a) = record { fits = true; store = store_with keys a.count; first = a.first; last = a.last }
grown_with keys count None = unfit (store_with keys count)

-- is there room for m keys more?
abbrev pub room : ℕ → ℕ → Bool
room count m = leb (count + m) limit

-- the store with a key at its place p
abbrev pub with_key : Place → ℕ → Store → Store
with_key p key s = store_with (put_in p s.count key s.keys) (s.count + lacking p)

-- one key added, at p
abbrev pub add_one : Place → ℕ → Store → Grown
add_one p key s = cond (room s.count (lacking p)) (grown (with_key p key s) p.at p.at) (unfit s)

-- Do two keys fit, the lesser one at p and the greater one at q? There is room, and p does not come after q, as it would where lo is above hi.
abbrev pub fit_two : Place → Place → ℕ → Bool
fit_two p q count = leb p.at q.at && room count (lacking p + lacking q)

-- two keys added, the lesser one at p and the greater one at q
abbrev pub add_two : Place → Place → ℕ → ℕ → Store → Grown
add_two p q lo hi s =
    cond (fit_two p q s.count) (grown (with_key (raised p q) hi (with_key p lo s)) p.at (q.at + lacking p)) (unfit s)

-- `add_in`: one key entered
unfoldable pub add_in : Store → ℕ → Grown
add_in s key = add_one (place_in s.keys s.count key) key s

-- `add_both_in`: two keys entered, or one where they are equal
unfoldable pub add_both_in : Store → ℕ → ℕ → Grown
add_both_in s lo hi =
    cond (eqb lo hi)
    (add_one (place_in s.keys s.count lo) lo s)
    (add_two (place_in s.keys s.count lo) (place_in s.keys s.count hi) lo hi s)
