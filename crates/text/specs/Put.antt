-- Text at a place of a lent buffer, for any buffer and any place: the whole text where there is room for it, and otherwise nothing. In order: text that
-- begins at a place; text that ends at a place; what the crates above say of text for which they have made room. Assumes nothing.
use Rattle.std.specs.Prelude.{ℕ, ◌+◌, ◌-◌, ◌≤◌, Bool, cond, ◌&&◌, List, ◌≡◌, leb, length}
use Rattle.keys.specs.Place.{put_at}

-- ---- text that begins at a place

abbrev pub fits_from : List ℕ → ℕ → List ℕ → Bool
fits_from out at text = leb (at + length text) (length out)

-- the buffer afterwards, and where the text ends; without room it is as it was, and the place too
unfoldable pub put_from : List ℕ → ℕ → List ℕ → List ℕ
put_from out at text = cond (fits_from out at text) (put_at out at text) out

unfoldable pub end_from : List ℕ → ℕ → List ℕ → ℕ
end_from out at text = cond (fits_from out at text) (at + length text) at

-- ---- text that ends at a place

abbrev pub fits_before : List ℕ → ℕ → List ℕ → Bool
fits_before out end text = leb end (length out) && leb (length text) end

-- the buffer afterwards, and where the text begins; without room it is as it was, and the place too
unfoldable pub put_before : List ℕ → ℕ → List ℕ → List ℕ
put_before out end text = cond (fits_before out end text) (put_at out (end - length text) text) out

unfoldable pub start_before : List ℕ → ℕ → List ℕ → ℕ
start_before out end text = cond (fits_before out end text) (end - length text) end

-- ---- text for which there is room, of so many characters at most: where it ends, where it ends at the latest, and the whole buffer afterwards

pub record Put (out : List ℕ) (at : ℕ) (text : List ℕ) (most end : ℕ) (after : List ℕ) : Type 0 where
  pub end_is : end ≡ at + length text
  pub end_by : end ≤ at + most
  pub after_is : after ≡ put_at out at text
