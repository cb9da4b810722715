-- Places as numbers (src/lib.rt): that they fit, and a law for each way that telling two of them goes, over the definitions of specs/Told. Assumes nothing.
use mathlib.Core.Path.{◌≡◌, refl, ◌∙◌}
use mathlib.Core.Bool.{Bool, true, false, ◌&&◌}
use mathlib.Core.List.{List, [], ◌∷◌}
use Prim.Native.Nat.{ℕ, ◌+◌, ◌*◌, ◌^◌, ◌≤◌, ◌<◌}
use native.Mathlib.Omega.{arith}
use borrow.Author.Tests.{le-leb, lt-leb, leb-true}
use lib.Dec.{ltb, leb}
use lib.ListN.{length, set, length-set}
use Rattle.keys.specs.declared.lent.Place.{Place}
use Rattle.keys.specs.Place.{put_at}
use Rattle.keys.specs.Lent.{place_in}
use Rattle.keys.proofs.Tests.{and_right}
use Rattle.keys.proofs.PlaceLaws.{put_at_one, put_at_cons}
use Rattle.keys.proofs.LentLaws.{place_in_le}
use Rattle.searches.specs.Told.{told_place, told_places}

-- a place is at most the number of keys in the run, whatever the count, ..
place_in_length : (keys : List ℕ) (count key : ℕ) → (place_in keys count key).at ≤ length keys
unfolding place_in
place_in_length keys count key = go (ltb 0 count && leb count (length keys)) refl
  where
    go : (t : Bool) → (ltb 0 count && leb count (length keys)) ≡ t → (place_in keys count key).at ≤ length keys
    go true e =
        let fits : count ≤ length keys = leb-true count (length keys) (and_right (ltb 0 count) (leb count (length keys)) e) in
        omega (arith, place_in_le keys count key)
    go false e = rw e (omega arith)

-- .. which are so few that its number fits
pub place_fits : (keys : List ℕ) (count key : ℕ) (p : Place) → p ≡ place_in keys count key → length keys * 8 < 2 ^ 63 → p.at + p.at + 1 < 2 ^ 64
place_fits keys count key p e h = rw e (omega (arith, place_in_length keys count key))

-- `minutefrost_places_in`

module _ (keys : List ℕ) (count lo hi : ℕ) (lent : List ℕ) where
  pub places_few : length lent < 2 → (false ≡ leb 2 (length lent)) × (lent ≡ told_places keys count lo hi lent)
  unfolding told_places
  places_few h = (rw (lt-leb 2 (length lent) h), rw (lt-leb 2 (length lent) h))

  pub places_two : 2 ≤ length lent → {p q : Place} {a b : ℕ} → p ≡ place_in keys count lo → q ≡ place_in keys count hi → a ≡ told_place p → b ≡ told_place q
      → (true ≡ leb 2 (length lent)) × (set (set lent 0 a) 1 b ≡ told_places keys count lo hi lent)
  unfolding told_places
  places_two h {p} {q} {a} {b} e f s t =
      let both : set (set lent 0 a) 1 b ≡ put_at lent 0 (a ∷ (b ∷ [])) =
      put_at_one (set lent 0 a) 1 b (rw length-set (omega arith)) ∙ put_at_cons lent 0 a (b ∷ []) (omega arith) in
      (rw (le-leb 2 (length lent) h), rw (le-leb 2 (length lent) h, ← e, ← f, ← s, ← t) both)
