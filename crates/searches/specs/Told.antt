-- A place as one number, for programs in other languages. What the place of a key is, is in `keys`, specs/Lent. Assumes nothing.
use Rattle.std.specs.Prelude.{ℕ, ◌+◌, cond, List, [], ◌∷◌, leb, length}
use Rattle.keys.specs.declared.lent.Place.{Place}
use Rattle.keys.specs.Place.{put_at}
use Rattle.keys.specs.Lent.{place_in}

-- twice the position, and one more where the key is held
abbrev pub told_place : Place → ℕ
told_place p = p.at + p.at + cond p.held 1 0

-- the lent numbers once the places of two keys are told in the first two of them; fewer than two stay what they are
unfoldable pub told_places : List ℕ → ℕ → ℕ → ℕ → List ℕ → List ℕ
told_places keys count lo hi lent =
    cond (leb 2 (length lent)) (put_at lent 0 (told_place (place_in keys count lo) ∷ (told_place (place_in keys count hi) ∷ []))) lent
