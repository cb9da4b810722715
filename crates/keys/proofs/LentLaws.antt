-- What the calls on a lent run mean where the run is a store in order (specs/Lent against specs/Store): the run of `store_of l` for rising keys l, and
-- their number as the count. The crates above prove their loops from these. In order: question 1; the store that a run makes up; a place, of any run and of
-- one in order; a key put in; one key added; two keys added; and of any run, what does not fit and what does.
-- Assumes nothing.
use mathlib.Core.Path.{◌≡◌, refl, sym, ◌∙◌, ap, ap₂}
use mathlib.Core.Bool.{Bool, true, false, cond, ◌&&◌, and_assoc, false≢true}
use mathlib.Core.Logic.{⊎_elim}
use mathlib.Core.List.{List, [], ◌∷◌, ◌++◌, append_assoc, Memᴰ}
use Prim.Native.Nat.{ℕ, suc, ◌+◌, ◌-◌, ◌≤◌, ◌<◌}
use native.Mathlib.Omega.{arith}
use borrow.Author.Tests.{le-leb, lt-leb, leb-true, ltb-true, eq-eqb, ne_eqb}
use lib.Dec.{ltb, leb, eqb}
use lib.ListN.{length, take, drop, get_or, replicate, length-append, length-take, length-drop, take-append-drop, drop_of_length-le}
use lib.Seq.{length-take-le, take-append-le, drop-append-le, take-append_seam, take_at, drop_at, drop-append-add, take-length}
use Rattle.keys.specs.declared.lent.Place.{Place}
use Rattle.keys.specs.declared.store.Store.{Store}
use Rattle.keys.specs.Store.{limit, Sized, zeros, keys_of, running, store_of, rising, all_zero, sums_of, in_order, position, holds, insert}
use Rattle.keys.specs.Place.{put_at}
use Rattle.keys.specs.Lent.{ordered_in, summed_in, resummed, quartered, place_at, place_in, inserted_at, lacking, put_in, store_with}
use Rattle.keys.specs.Lent.{Grown, grown, unfit, room, with_key, add_one, raised, fit_two, add_two, add_in, add_both_in}
use Rattle.keys.proofs.Tests.{eq_or_ne, and_left, and_right}
use Rattle.keys.proofs.PlaceLaws.{put_at_replicate}
use Rattle.keys.proofs.Rising.{Rising, rising_true, holds_mem, holds_absent, mem_holds, absent_holds, mem_or_absent}
use Rattle.keys.proofs.Insert.{insert_rising, insert_held, insert_mem, mem_insert_new, mem_insert_old}
use Rattle.keys.proofs.Insert.{length_insert_missing, length_insert_held, length_insert_ge}
use Rattle.keys.proofs.Position.{position_le, position_mono, insert_position}
use Rattle.keys.proofs.Position.{position_insert_le, position_insert_self, position_insert_missing, position_insert_held}
use Rattle.keys.proofs.StoreLaws.{length_zeros, all_zero_zeros, same_keys_refl, length_running, count_store_of, keys_store_of, keys_of_store_of}
use Rattle.keys.proofs.QuarteringLaws.{quartered_lt}
use Rattle.keys.proofs.PuttingLaws.{length_inserted_at}
use Rattle.keys.proofs.FindingLaws.{place_in_front}

-- ---- question 1

pub summed_in_in_order : (s : Store) → length s.keys ≡ limit → summed_in s.keys s.sums s.count ≡ in_order s
unfolding summed_in ordered_in in_order
summed_in_in_order s e = rw e (go (leb s.count limit))
  where
    blank : Bool
    blank = all_zero (drop s.count s.keys)

    right : Bool
    right = sums_of (keys_of s) s.sums

    go : (t : Bool) → ((t && (t && (rising (keys_of s) && blank))) && right) ≡ (t && (rising (keys_of s) && (blank && right)))
    go true = and_assoc (rising (keys_of s)) blank right
    go false = refl

-- with its sums it passes only if it does without them
pub summed_in_ordered : (keys sums : List ℕ) (count : ℕ) → summed_in keys sums count ≡ true → ordered_in keys count ≡ true
unfolding summed_in
summed_in_ordered keys sums count h = and_left (ordered_in keys count) (sums_of (take count keys) sums) h

-- a run that is keys to its end, with the sums that belong to them
pub ordered_in_all : (l : List ℕ) → ordered_in l (length l) ≡ in_order (store_of l)
unfolding ordered_in in_order store_of
ordered_in_all l =
    let z : List ℕ = zeros (limit - length l) in
    let past : drop (length l) (l ++ z) ≡ z = drop_at l z (length l) refl in
    let le : length l ≤ length l = omega arith in
    let none : drop (length l) l ≡ [] = drop_of_length-le l le in
    let n : length (running l) ≡ length l = length_running 0 l in
    rw (
      keys_of_store_of l,
      past,
      take_at (running l) z (length l) n,
      drop_at (running l) z (length l) n,
      same_keys_refl (running l),
      all_zero_zeros (limit - length l),
      le-leb (length l) (length l) (omega arith),
      take-length l,
      none,
    )

-- what a run that passes it gives
module _ (keys : List ℕ) (count : ℕ) (yes : ordered_in keys count ≡ true) where
  pub ordered_in_limit : count ≤ limit
  unfolding ordered_in
  ordered_in_limit = leb-true count limit (and_left (leb count limit) (leb count (length keys) && (rising (take count keys) && all_zero (drop count keys))) yes)

  rest : (leb count (length keys) && (rising (take count keys) && all_zero (drop count keys))) ≡ true
  unfolding ordered_in
  rest = and_right (leb count limit) (leb count (length keys) && (rising (take count keys) && all_zero (drop count keys))) yes

  pub ordered_in_long : count ≤ length keys
  ordered_in_long = leb-true count (length keys) (and_left (leb count (length keys)) (rising (take count keys) && all_zero (drop count keys)) rest)

  pub ordered_in_rising : rising (take count keys) ≡ true
  ordered_in_rising =
      and_left (rising (take count keys)) (all_zero (drop count keys))
      (and_right (leb count (length keys)) (rising (take count keys) && all_zero (drop count keys)) rest)

  pub ordered_in_short : length (take count keys) ≤ limit
  ordered_in_short = rw (length-take count keys) (omega (arith, ordered_in_limit))

-- ---- the store that a run and its count make up

-- its arrays are as long as the run
pub sized_store_with : (keys : List ℕ) (count : ℕ) → length keys ≡ limit → Sized (store_with keys count)
sized_store_with keys count e = record {
  keys = e;
  sums =
      length-append (running (take count keys)) (zeros (length keys - count))
      ∙ (omega (arith, length_running 0 (take count keys), length-take count keys, length_zeros (length keys - count)));
}

-- of the run of a store, that store
pub store_with_store_of : (l : List ℕ) → length l ≤ limit → store_with (store_of l).keys (store_of l).count ≡ store_of l
unfolding store_of
store_with_store_of l h =
    let front : running (take (length l) (l ++ zeros (limit - length l))) ≡ running l = ap running (take-append_seam l (zeros (limit - length l))) in
    let many : length (l ++ zeros (limit - length l)) ≡ limit =
    length-append l (zeros (limit - length l)) ∙ (omega (arith, length_zeros (limit - length l))) in
    let back : zeros (length (l ++ zeros (limit - length l)) - length l) ≡ zeros (limit - length l) = ap (λ (n : ℕ). zeros (n - length l)) many in
    λ i. record { keys = l ++ zeros (limit - length l); sums = front i ++ back i; count = length l }

-- all sums worked out over zeros are those that belong to the keys
pub resummed_zeros : (keys : List ℕ) (count : ℕ) → length keys ≡ limit → count ≤ limit → resummed keys (zeros limit) 0 count ≡ (store_with keys count).sums
unfolding resummed zeros
resummed_zeros keys count long few =
    let inside : count ≤ length keys = omega arith in
    let all : running (take (count - 0) keys) ≡ running (take count keys) = ap (λ (n : ℕ). running (take n keys)) (let e : count - 0 ≡ count = omega arith in e) in
    let many : length (running (take count keys)) ≡ count = length_running 0 (take count keys) ∙ length-take-le count keys inside in
    let left : limit - length (running (take count keys)) ≡ length keys - count = omega arith in
    rw (le-leb 0 count (omega arith), le-leb count (length keys) inside, le-leb count limit few)
    (ap (put_at (replicate limit 0) 0) all
    ∙ (put_at_replicate (running (take count keys)) limit 0 ∙ ap (λ (n : ℕ). running (take count keys) ++ replicate n 0) left))

-- ---- a place, of any run

pub lacking_le : (p : Place) → lacking p ≤ 1
lacking_le p = go p.held
  where
    go : (t : Bool) → cond {A = ℕ} t 0 1 ≤ 1
    go true = omega arith
    go false = omega arith

-- a place is below the count, once the key is put in
place_at_lt : (at found key count : ℕ) → at < count → (place_at at found key).at < count + lacking (place_at at found key)
place_at_lt at found key count h = go (ltb found key) (eqb found key)
  where
    place : Bool → Bool → Place
    place t u = cond t (record { at = at + 1; held = false }) (record { at = at; held = u })

    go : (t u : Bool) → (place t u).at < count + lacking (place t u)
    go true u = omega arith
    go false true = omega arith
    go false false = omega arith

pub place_in_lt : (keys : List ℕ) (count key : ℕ) → (place_in keys count key).at < count + lacking (place_in keys count key)
unfolding place_in
place_in_lt keys count key = go (ltb 0 count && leb count (length keys)) refl
  where
    place : Bool → Place
    place t = cond t (place_at (quartered count keys key 0 count) (get_or keys (quartered count keys key 0 count) 0) key) (record { at = 0; held = false })

    go : (t : Bool) → (ltb 0 count && leb count (length keys)) ≡ t → (place t).at < count + lacking (place t)
    go true e =
        let some : 0 < count = ltb-true 0 count (and_left (ltb 0 count) (leb count (length keys)) e) in
        let l : quartered count keys key 0 count < 0 + count = quartered_lt count keys key 0 count some in
        place_at_lt (quartered count keys key 0 count) (get_or keys (quartered count keys key 0 count) 0) key count (omega arith)
    go false e = omega arith

-- and so at most the count before
pub place_in_le : (keys : List ℕ) (count key : ℕ) → (place_in keys count key).at ≤ count
place_in_le keys count key = omega (arith, place_in_lt keys count key, lacking_le (place_in keys count key))

-- ---- a place, of a run in order

module _ (l : List ℕ) (rise : Rising l) where
  -- the place that a key has among the keys l
  abbrev pub place_of : ℕ → Place
  place_of key = record { at = position key l; held = holds key l }

  pub place_in_store : (key : ℕ) → place_in (store_of l).keys (length l) key ≡ place_of key
  place_in_store key = rw (keys_store_of l) (place_in_front l (zeros (limit - length l)) key rise)

-- the place of a key in any run in order
pub place_in_ordered : (keys : List ℕ) (held key : ℕ) → ordered_in keys held ≡ true
    → place_in keys held key ≡ record { at = position key (take held keys); held = holds key (take held keys) }
place_in_ordered keys held key h =
    let n : length (take held keys) ≡ held = length-take-le held keys (ordered_in_long keys held h) in
    ap₂ (λ (r : List ℕ) (m : ℕ). place_in r m key) (sym (take-append-drop held keys)) (sym n)
    ∙ place_in_front (take held keys) (drop held keys) key (rising_true (take held keys) (ordered_in_rising keys held h))

-- ---- a key put in

-- the run keeps its length
pub length_put_in : (p : Place) (count key : ℕ) (keys after : List ℕ) → after ≡ put_in p count key keys → p.at ≤ count → count + lacking p ≤ limit
    → length keys ≡ limit → length after ≡ limit
length_put_in p count key keys after put h f e = ap length put ∙ go p.held f
  where
    go : (t : Bool) → count + cond t 0 1 ≤ limit → length (cond t keys (inserted_at p.at count key keys)) ≡ limit
    go true g = e
    go false g = length_inserted_at p.at count key keys h (omega arith) ∙ e

pub inserted_at_insert : (l : List ℕ) (k : ℕ) → (Memᴰ k l → ⊥) → length l < limit
    → inserted_at (position k l) (length l) k (store_of l).keys ≡ (store_of (insert k l)).keys
unfolding inserted_at zeros
inserted_at_insert l k missing h =
    let z : List ℕ = zeros (limit - length l) in
    let at : ℕ = position k l in
    let le : at ≤ length l = position_le k l in
    let front : take at (l ++ z) ≡ take at l = take-append-le at l z le in
    let back : drop at (l ++ z) ≡ drop at l ++ z = drop-append-le at l z le in
    let all : take (length l - at) (drop at l ++ z) ≡ drop at l = take_at (drop at l) z (length l - at) (length-drop at l) in
    let n : ℕ = limit - suc (length l) in
    let more : limit - length l ≡ suc n = omega arith in
    let past : drop (length l + 1) (l ++ z) ≡ zeros n = drop-append-add l z 1 ∙ ap (λ (m : ℕ). drop 1 (zeros m)) more in
    let grown : length (insert k l) ≡ suc (length l) = length_insert_missing k l missing in
    rw (keys_store_of l, keys_store_of (insert k l), front, back, all, past, grown, insert_position k l missing)
    (sym (append_assoc (take at l) (k ∷ drop at l) (zeros n)))

-- one key more where it is missing
pub length_insert_lacking : (l : List ℕ) (rise : Rising l) (k : ℕ) → length l + lacking (place_of l rise k) ≡ length (insert k l)
length_insert_lacking l rise k = go (holds k l) refl
  where
    go : (t : Bool) → holds k l ≡ t → length l + cond t 0 1 ≡ length (insert k l)
    go true e = omega (arith, length_insert_held k l rise (holds_mem k l e))
    go false e = omega (arith, length_insert_missing k l (holds_absent k l e))

pub put_in_insert : (l : List ℕ) (rise : Rising l) (k : ℕ) → length (insert k l) ≤ limit
    → put_in (place_of l rise k) (length l) k (store_of l).keys ≡ (store_of (insert k l)).keys
put_in_insert l rise k h = go (holds k l) refl
  where
    go : (t : Bool) → holds k l ≡ t → cond t (store_of l).keys (inserted_at (position k l) (length l) k (store_of l).keys) ≡ (store_of (insert k l)).keys
    go true e = ap (λ (m : List ℕ). (store_of m).keys) (sym (insert_held k l rise (holds_mem k l e)))
    go false e =
        let missing = holds_absent k l e in
        inserted_at_insert l k missing (omega (arith, length_insert_missing k l missing))

-- the store with the key
pub with_key_insert : (l : List ℕ) (rise : Rising l) (k : ℕ) → length (insert k l) ≤ limit
    → with_key (place_of l rise k) k (store_of l) ≡ store_of (insert k l)
with_key_insert l rise k h =
    let n : (store_of l).count + lacking (place_of l rise k) ≡ (store_of (insert k l)).count =
    ap (λ (m : ℕ). m + lacking (place_of l rise k)) (count_store_of l) ∙ (length_insert_lacking l rise k ∙ sym (count_store_of (insert k l))) in
    let put : put_in (place_of l rise k) (store_of l).count k (store_of l).keys ≡ (store_of (insert k l)).keys =
    ap (λ (m : ℕ). put_in (place_of l rise k) m k (store_of l).keys) (count_store_of l) ∙ put_in_insert l rise k h in
    (λ i. store_with (put i) (n i)) ∙ store_with_store_of (insert k l) h

-- ---- one key added

module _ (l : List ℕ) (rise : Rising l) (k : ℕ) where
  -- the place where it is found, and the count with it
  found : place_in (store_of l).keys (store_of l).count k ≡ place_of l rise k
  found = rw (count_store_of l) (place_in_store l rise k)

  grows : (store_of l).count + lacking (place_of l rise k) ≡ length (insert k l)
  grows = rw (count_store_of l) (length_insert_lacking l rise k)

  pub add_in_fits : length (insert k l) ≤ limit → add_in (store_of l) k ≡ grown (store_of (insert k l)) (position k l) (position k l)
  unfolding add_in
  add_in_fits h =
      let fits : room (store_of l).count (lacking (place_of l rise k)) ≡ true = ap (λ (n : ℕ). leb n limit) grows ∙ le-leb (length (insert k l)) limit h in
      rw (found, fits)
      (ap (λ (s : Store). grown s (position k l) (position k l)) (with_key_insert l rise k h))

  pub add_in_full : limit < length (insert k l) → add_in (store_of l) k ≡ unfit (store_of l)
  unfolding add_in
  add_in_full h = rw (found, grows, lt-leb (length (insert k l)) limit h)

-- ---- two keys added, the lesser one first

module _ (l : List ℕ) (rise : Rising l) (lo hi : ℕ) (h : lo < hi) where
  pub lower_rise : Rising (insert lo l)
  lower_rise = insert_rising lo l rise

  pub position_raised : position hi l + lacking (place_of l rise lo) ≡ position hi (insert lo l)
  position_raised = go (holds lo l) refl
    where
      go : (t : Bool) → holds lo l ≡ t → position hi l + cond t 0 1 ≡ position hi (insert lo l)
      go true e = omega (arith, position_insert_held hi lo l rise (holds_mem lo l e))
      go false e = omega (arith, position_insert_missing hi lo l h (holds_absent lo l e))

  pub holds_raised : holds hi l ≡ holds hi (insert lo l)
  holds_raised = ⊎_elim {C = holds hi l ≡ holds hi (insert lo l)}
      (λ (m : Memᴰ hi l). mem_holds hi l m ∙ sym (mem_holds hi (insert lo l) (mem_insert_old lo l hi m)))
      (λ (f : Memᴰ hi l → ⊥).
      absent_holds hi l f
      ∙ sym (absent_holds hi (insert lo l) (λ m. ⊎_elim {C = ⊥} (λ (e : hi ≡ lo). omega arith) f (insert_mem lo l hi m))))
      (mem_or_absent hi l)

  pub raised_place : raised (place_of l rise lo) (place_of l rise hi) ≡ place_of (insert lo l) lower_rise hi
  raised_place = λ i. record { at = position_raised i; held = holds_raised i }

  pub lacking_raised : lacking (place_of l rise hi) ≡ lacking (place_of (insert lo l) lower_rise hi)
  lacking_raised = ap (λ (t : Bool). cond {A = ℕ} t 0 1) holds_raised

  pub length_both : length l + (lacking (place_of l rise lo) + lacking (place_of l rise hi)) ≡ length (insert hi (insert lo l))
  length_both = omega (arith, length_insert_lacking l rise lo, length_insert_lacking (insert lo l) lower_rise hi, lacking_raised)

  -- their places rise, ..
  turn : leb (position lo l) (position hi l) ≡ true
  turn = le-leb (position lo l) (position hi l) (position_mono lo hi l (omega arith))

  -- .. and the count with both
  grows_both : (store_of l).count + (lacking (place_of l rise lo) + lacking (place_of l rise hi)) ≡ length (insert hi (insert lo l))
  grows_both = rw (count_store_of l) length_both

  pub add_two_fits : length (insert hi (insert lo l)) ≤ limit
      → add_two (place_of l rise lo) (place_of l rise hi) lo hi (store_of l)
      ≡ grown (store_of (insert hi (insert lo l))) (position lo l) (position hi (insert lo l))
  add_two_fits g =
      let once : with_key (place_of l rise lo) lo (store_of l) ≡ store_of (insert lo l) =
      with_key_insert l rise lo (omega (arith, length_insert_ge hi (insert lo l))) in
      let twice : with_key (raised (place_of l rise lo) (place_of l rise hi)) hi (with_key (place_of l rise lo) lo (store_of l)) ≡ store_of (insert hi (insert lo l)) =
      ap₂ (λ (p : Place) (s : Store). with_key p hi s) raised_place once ∙ with_key_insert (insert lo l) lower_rise hi g in
      rw (turn, grows_both, le-leb (length (insert hi (insert lo l))) limit g)
      (λ i. grown (twice i) (position lo l) (position_raised i))

  pub add_two_full : limit < length (insert hi (insert lo l)) → add_two (place_of l rise lo) (place_of l rise hi) lo hi (store_of l) ≡ unfit (store_of l)
  add_two_full g = rw (turn, grows_both, lt-leb (length (insert hi (insert lo l))) limit g)

-- ---- two keys added, or one where they are equal

module _ (l : List ℕ) (rise : Rising l) (lo hi : ℕ) (ordered : lo ≤ hi) where
  -- the keys with both
  abbrev pub with_both : List ℕ
  with_both = insert hi (insert lo l)

  -- where both stand then
  pub position_lo_both : position lo with_both ≡ position lo l
  position_lo_both = position_insert_le lo hi (insert lo l) ordered ∙ position_insert_self lo l

  pub position_hi_both : position hi with_both ≡ position hi (insert lo l)
  position_hi_both = position_insert_self hi (insert lo l)

  -- where they are equal it is one key
  both_alone : lo ≡ hi → with_both ≡ insert lo l
  both_alone e = rw (← e) (insert_held lo (insert lo l) (insert_rising lo l rise) (mem_insert_new lo l))

  both_cases : (P : Type 0) → (lo ≡ hi → P) → (lo < hi → P) → P
  both_cases P one two = ⊎_elim {C = P} one (λ (f : lo ≡ hi → ⊥). two (omega arith)) (eq_or_ne lo hi)

  pub add_both_in_fits : length with_both ≤ limit
      → add_both_in (store_of l) lo hi ≡ grown (store_of with_both) (position lo with_both) (position hi with_both)
  unfolding add_both_in add_in
  add_both_in_fits h = both_cases
      (add_both_in (store_of l) lo hi ≡ grown (store_of with_both) (position lo with_both) (position hi with_both))
      (λ e.
      let same = both_alone e in
      let last : position lo l ≡ position hi with_both = sym (ap (λ (k : ℕ). position k with_both) (sym e) ∙ position_lo_both) in
      rw (eq-eqb lo hi e)
      (add_in_fits l rise lo (omega (arith, ap length same)) ∙ (λ i. grown (store_of (sym same i)) (sym position_lo_both i) (last i))))
      (λ p.
      rw (ne_eqb lo hi (λ (e : lo ≡ hi). omega arith), found l rise lo, found l rise hi)
      (add_two_fits l rise lo hi p h ∙ (λ i. grown (store_of with_both) (sym position_lo_both i) (sym position_hi_both i))))

  pub add_both_in_full : limit < length with_both → add_both_in (store_of l) lo hi ≡ unfit (store_of l)
  unfolding add_both_in add_in
  add_both_in_full h = both_cases
      (add_both_in (store_of l) lo hi ≡ unfit (store_of l))
      (λ e. rw (eq-eqb lo hi e) (add_in_full l rise lo (omega (arith, ap length (both_alone e)))))
      (λ p.
      rw (ne_eqb lo hi (λ (e : lo ≡ hi). omega arith), found l rise lo, found l rise hi)
      (add_two_full l rise lo hi p h))

-- ---- of any run: keys that do not fit leave the store as it was; those that fit stand at places of it, the lesser one first

-- what adding gives is one of the two
pub record Laid (g : Grown) : Type 0 where
  pub rise : g.first ≤ g.last
  pub inside : g.last < g.store.count
  pub short : g.store.count ≤ limit

module _ (s : Store) where
  add_one_unfit : (p : Place) (k : ℕ) → (add_one p k s).fits ≡ false → (add_one p k s).store ≡ s
  add_one_unfit p k = go (room s.count (lacking p))
    where
      go : (t : Bool) → (cond t (grown (with_key p k s) p.at p.at) (unfit s)).fits ≡ false
          → (cond t (grown (with_key p k s) p.at p.at) (unfit s)).store ≡ s
      go true e = absurd (false≢true (sym e))
      go false e = refl

  add_two_unfit : (p q : Place) (lo hi : ℕ) → (add_two p q lo hi s).fits ≡ false → (add_two p q lo hi s).store ≡ s
  add_two_unfit p q lo hi = go (fit_two p q s.count)
    where
      both : Grown
      both = grown (with_key (raised p q) hi (with_key p lo s)) p.at (q.at + lacking p)

      go : (t : Bool) → (cond t both (unfit s)).fits ≡ false → (cond t both (unfit s)).store ≡ s
      go true e = absurd (false≢true (sym e))
      go false e = refl

  pub add_in_unfit : (k : ℕ) → (add_in s k).fits ≡ false → (add_in s k).store ≡ s
  unfolding add_in
  add_in_unfit k = add_one_unfit (place_in s.keys s.count k) k

  pub add_both_in_unfit : (lo hi : ℕ) → (add_both_in s lo hi).fits ≡ false → (add_both_in s lo hi).store ≡ s
  unfolding add_both_in
  add_both_in_unfit lo hi = go (eqb lo hi)
    where
      p : Place
      p = place_in s.keys s.count lo

      q : Place
      q = place_in s.keys s.count hi

      go : (t : Bool) → (cond t (add_one p lo s) (add_two p q lo hi s)).fits ≡ false → (cond t (add_one p lo s) (add_two p q lo hi s)).store ≡ s
      go true e = add_one_unfit p lo e
      go false e = add_two_unfit p q lo hi e

  -- one key more at most, and within the limit where the count was
  add_one_count : (p : Place) (k : ℕ) → (s.count ≤ (add_one p k s).store.count) × ((add_one p k s).store.count ≤ s.count + 1)
      × (s.count ≤ limit → (add_one p k s).store.count ≤ limit)
  add_one_count p k = go (room s.count (lacking p)) refl
    where
      after : Bool → ℕ
      after t = (cond t (grown (with_key p k s) p.at p.at) (unfit s)).store.count

      go : (t : Bool) → room s.count (lacking p) ≡ t → (s.count ≤ after t) × (after t ≤ s.count + 1) × (s.count ≤ limit → after t ≤ limit)
      go true e = (omega arith, omega (arith, lacking_le p), λ h. leb-true (s.count + lacking p) limit e)
      go false e = (omega arith, omega arith, λ h. h)

  pub add_in_count : (k : ℕ) → (s.count ≤ (add_in s k).store.count) × ((add_in s k).store.count ≤ s.count + 1)
      × (s.count ≤ limit → (add_in s k).store.count ≤ limit)
  unfolding add_in
  add_in_count k = add_one_count (place_in s.keys s.count k) k

  add_one_laid : (p : Place) (k : ℕ) → p.at < s.count + lacking p → (add_one p k s).fits ≡ true → Laid (add_one p k s)
  add_one_laid p k below = go (room s.count (lacking p)) refl
    where
      go : (t : Bool) → room s.count (lacking p) ≡ t → (cond t (grown (with_key p k s) p.at p.at) (unfit s)).fits ≡ true
          → Laid (cond t (grown (with_key p k s) p.at p.at) (unfit s))
      go true e f = record { rise = omega arith; inside = omega arith; short = leb-true (s.count + lacking p) limit e }
      go false e f = absurd (false≢true f)

  add_two_laid : (p q : Place) (lo hi : ℕ) → q.at < s.count + lacking q → (add_two p q lo hi s).fits ≡ true → Laid (add_two p q lo hi s)
  add_two_laid p q lo hi below = go (fit_two p q s.count) refl
    where
      both : Grown
      both = grown (with_key (raised p q) hi (with_key p lo s)) p.at (q.at + lacking p)

      go : (t : Bool) → fit_two p q s.count ≡ t → (cond t both (unfit s)).fits ≡ true → Laid (cond t both (unfit s))
      go true e f =
          let rises : p.at ≤ q.at = leb-true p.at q.at (and_left (leb p.at q.at) (room s.count (lacking p + lacking q)) e) in
          let fits : s.count + (lacking p + lacking q) ≤ limit =
          leb-true (s.count + (lacking p + lacking q)) limit (and_right (leb p.at q.at) (room s.count (lacking p + lacking q)) e) in
          record { rise = omega arith; inside = omega arith; short = omega arith }
      go false e f = absurd (false≢true f)

  pub add_both_in_laid : (lo hi : ℕ) → (add_both_in s lo hi).fits ≡ true → Laid (add_both_in s lo hi)
  unfolding add_both_in
  add_both_in_laid lo hi = go (eqb lo hi)
    where
      p : Place
      p = place_in s.keys s.count lo

      q : Place
      q = place_in s.keys s.count hi

      go : (t : Bool) → (cond t (add_one p lo s) (add_two p q lo hi s)).fits ≡ true → Laid (cond t (add_one p lo s) (add_two p q lo hi s))
      go true e = add_one_laid p lo (place_in_lt s.keys s.count lo) e
      go false e = add_two_laid p q lo hi (place_in_lt s.keys s.count hi) e
