-- The calls on a lent run (src/lent.rt): a law for each way that the code goes, over the definitions of specs/Lent. What these mean where the run is a store
-- in order is in LentLaws. Assumes nothing.
use mathlib.Core.Path.{◌≡◌, refl, sym, ◌∙◌, ap}
use mathlib.Core.Bool.{Bool, true, false, cond, not, ◌&&◌, and-false}
use mathlib.Core.List.{List, []}
use Prim.Native.Nat.{ℕ, ◌+◌, ◌-◌, ◌≤◌, ◌<◌}
use native.Mathlib.Omega.{arith}
use borrow.Author.Tests.{lt-ltb, le-ltb, le-leb, lt-leb, eq-eqb, ne_eqb, not-true, not-false}
use lib.Dec.{leb}
use lib.ListN.{length, take, drop, get_or, length-take}
use lib.Seq.{length-take-le}
use Rattle.keys.specs.declared.lent.Place.{Place}
use Rattle.keys.specs.Store.{limit, running_from, running, rising, all_zero, same_keys, sums_of}
use Rattle.keys.specs.Place.{put_at}
use Rattle.keys.specs.Lent.{ordered_in, summed_in, sum_before, resummed, quartered, place_at, place_in, lacking, put_in}
use Rattle.keys.specs.Lent.{store_with, Grown, grown, unfit, add_two, add_in, add_both_in}
use Rattle.keys.proofs.PlaceLaws.{slice_rest, put_at_nil}
use Rattle.keys.proofs.StoreLaws.{same_keys_fewer, length_running}
use Rattle.keys.proofs.QuarteringLaws.{quartered_lt}
use Rattle.keys.proofs.LentLaws.{ordered_in_long, lacking_le, place_in_le}

-- `ordered_in`

module _ (keys : List ℕ) (count : ℕ) where
  pub ordered_long : limit < count → false ≡ ordered_in keys count
  unfolding ordered_in
  ordered_long h = rw (lt-leb count limit h)

  pub ordered_short : count ≤ limit → length keys < count → false ≡ ordered_in keys count
  unfolding ordered_in
  ordered_short h g = rw (le-leb count limit h, lt-leb count (length keys) g)

  module _ (few : count ≤ limit) (long : count ≤ length keys) (rises : Bool) (told : rises ≡ rising (take count keys)) where
    pub ordered_not : not rises ≡ true → false ≡ ordered_in keys count
    unfolding ordered_in
    ordered_not e = rw (le-leb count limit few, le-leb count (length keys) long, ← told, not-true rises e)

    pub ordered_all_zero : not rises ≡ false → (blank : Bool) → blank ≡ all_zero (take (length keys - count) (drop count keys)) → blank ≡ ordered_in keys count
    unfolding ordered_in
    ordered_all_zero e blank looked =
        looked ∙ rw (le-leb count limit few, le-leb count (length keys) long, ← told, not-false rises e, slice_rest keys count)

-- `summed_in`, by what `ordered_in` told

module _ (keys sums : List ℕ) (count : ℕ) (ordered : Bool) (tested : ordered ≡ ordered_in keys count) where
  pub summed_order : not ordered ≡ true → false ≡ summed_in keys sums count
  unfolding summed_in
  summed_order e = rw (← tested, not-true ordered e)

  module _ (e : not ordered ≡ false) where
    -- the keys below the count, so many
    pub summed_many : length (take count keys) ≡ count
    summed_many = length-take-le count keys (ordered_in_long keys count (sym tested ∙ not-false ordered e))

    rest : sums_of (take count keys) sums ≡ summed_in keys sums count
    unfolding summed_in
    rest = rw (← tested, not-false ordered e)

    pub summed_short : length sums < count → false ≡ summed_in keys sums count
    summed_short h =
        let n : length (running (take count keys)) ≡ count = length_running 0 (take count keys) ∙ summed_many in
        let few : length (take (length (take count keys)) sums) < length (running (take count keys)) =
        omega (arith, summed_many, n, length-take (length (take count keys)) sums) in
        let none : sums_of (take count keys) sums ≡ false = rw (same_keys_fewer (take (length (take count keys)) sums) (running (take count keys)) few) in
        sym none ∙ rest

    pub summed_lengths : count ≤ length sums → length (take count sums) ≡ length (take count keys)
    summed_lengths h = length-take-le count sums h ∙ sym summed_many

    module _ (right : Bool) (told : right ≡ same_keys (take count sums) (running (take count keys))) where
      pub summed_wrong : not right ≡ true → false ≡ summed_in keys sums count
      summed_wrong f =
          let no : same_keys (take count sums) (running (take count keys)) ≡ false = sym told ∙ not-true right f in
          let none : sums_of (take count keys) sums ≡ false = rw (summed_many, no) in
          sym none ∙ rest

      pub summed_zeros : not right ≡ false → (blank : Bool) → blank ≡ all_zero (take (length sums - count) (drop count sums)) → blank ≡ summed_in keys sums count
      summed_zeros f blank looked =
          let yes : same_keys (take count sums) (running (take count keys)) ≡ true = sym told ∙ not-false right f in
          let last : sums_of (take count keys) sums ≡ blank = rw (summed_many, yes, looked, slice_rest sums count) in
          sym last ∙ rest

-- `resum_in`

module _ (keys sums : List ℕ) (first count : ℕ) where
  -- what is worked out
  abbrev anew : List ℕ
  anew = running_from (sum_before sums first) (take (count - first) (drop first keys))

  pub resum_none : count ≤ first → sums ≡ resummed keys sums first count
  unfolding resummed
  resum_none h =
      let none : count - first ≡ 0 = omega arith in
      rw none (go (leb first count && (leb count (length keys) && leb count limit)))
    where
      go : (t : Bool) → sums ≡ cond t (put_at sums first []) sums
      go true = sym (put_at_nil sums first)
      go false = refl

  pub resum_short : length keys < count → sums ≡ resummed keys sums first count
  unfolding resummed
  resum_short h = rw (lt-leb count (length keys) h, and-false)

  pub resum_long : limit < count → sums ≡ resummed keys sums first count
  unfolding resummed
  resum_long h = rw (lt-leb count limit h, and-false, and-false)

  pub resum_all : first < count → count ≤ length keys → count ≤ limit → (before : ℕ) → before ≡ sum_before sums first
      → (after : List ℕ) → after ≡ put_at sums first (running_from before (take (count - first) (drop first keys))) → after ≡ resummed keys sums first count
  unfolding resummed
  resum_all low high few before e after done =
      let rise : first ≤ count = omega arith in
      rw (le-leb first count rise, le-leb count (length keys) high, le-leb count limit few)
      (done ∙ ap (λ (x : ℕ). put_at sums first (running_from x (take (count - first) (drop first keys)))) e)

-- `place_in`, `places_in`

abbrev pub nowhere : Place
nowhere = record { at = 0; held = false }

module _ (keys : List ℕ) (count key : ℕ) where
  pub place_none : count ≡ 0 → nowhere ≡ place_in keys count key
  unfolding place_in
  place_none e = rw (le-ltb 0 count (omega arith))

  pub place_short : (count ≡ 0 → ⊥) → length keys < count → nowhere ≡ place_in keys count key
  unfolding place_in
  place_short f h = rw (lt-ltb 0 count (omega arith), lt-leb count (length keys) h)

  module _ (some : 0 < count) (fits : count ≤ length keys) (at : ℕ) (found : at ≡ quartered count keys key 0 count) where
    pub place_lt : at < length keys
    place_lt = omega (arith, quartered_lt count keys key 0 count some)

    pub place_found : (p : Place) → p ≡ place_at at (get_or keys at 0) key → p ≡ place_in keys count key
    unfolding place_in
    place_found p e = rw (lt-ltb 0 count some, le-leb count (length keys) fits, ← found) e

-- what the next call asks of a place
pub place_le : (keys : List ℕ) (count key : ℕ) (p : Place) → p ≡ place_in keys count key → p.at ≤ count
place_le keys count key p found = rw found (place_in_le keys count key)

-- `add_in`: the key at its place p, `more` keys missing

module _ (keys : List ℕ) (count key : ℕ) (p : Place) (found : p ≡ place_in keys count key) (more : ℕ) (lacks : more ≡ lacking p) where
  pub add_full : limit - more < count → unfit (store_with keys count) ≡ add_in (store_with keys count) key
  unfolding add_in
  add_full h =
      let full : leb (count + lacking p) limit ≡ false = lt-leb (count + lacking p) limit (omega (arith, lacking_le p)) in
      rw (← found, full)

  pub add_room : count ≤ limit - more → (after : List ℕ) → after ≡ put_in p count key keys
      → grown (store_with after (count + more)) p.at p.at ≡ add_in (store_with keys count) key
  unfolding add_in
  add_room h after put =
      let fits : leb (count + lacking p) limit ≡ true = le-leb (count + lacking p) limit (omega (arith, lacking_le p)) in
      rw (← found, fits) (λ i. grown (store_with (put i) (count + lacks i)) p.at p.at)

-- `add_both_in`

module _ (keys : List ℕ) (count lo hi : ℕ) (g : Grown) where
  pub both_one : lo ≡ hi → g ≡ add_in (store_with keys count) lo → g ≡ add_both_in (store_with keys count) lo hi
  unfolding add_in add_both_in
  both_one e f = rw (eq-eqb lo hi e) f

  pub both_two : (lo ≡ hi → ⊥) → (p q : Place) → p ≡ place_in keys count lo → q ≡ place_in keys count hi
      → g ≡ add_two p q lo hi (store_with keys count) → g ≡ add_both_in (store_with keys count) lo hi
  unfolding add_both_in
  both_two ne p q ep eq f = rw (ne_eqb lo hi ne, ← ep, ← eq) f
