-- Which lists of events are meant (document 01, "Lists of events"), for n kiosks. Assumes nothing.
use Rattle.std.specs.Prelude.{ℕ, ◌<◌, ◌⊎◌, ◌≡◌}
use mathlib.Core.List.{List, [], ◌∷◌, Memᴰ}
use Rattle.meeting.specs.Event.{Event, enters, makes, delivers, beats, meets, joins}
use Rattle.meeting.specs.World.{World, outcome, after}

-- the call's own questions refuse it
abbrev pub Refused : Event → World → Type 0
Refused e w = (outcome e w.kiosks).number ≡ 0 → ⊥

-- "A delivered claim is one of these, field for field, or one that the call's own questions refuse" .. "a round of two different kiosks". A
-- joining is of any two, and of one with itself.
abbrev pub Meant : ℕ → Event → World → Type 0
Meant n (enters k x) w = k < n
Meant n (makes k i j) w = k < n
Meant n (delivers k to c) w = (k < n) × (Memᴰ c w.made ⊎ Refused (delivers k to c) w)
Meant n (beats k lent) w = k < n
Meant n (meets k m lent) w = (k < n) × (m < n) × (k ≡ m → ⊥)
Meant n (joins k m room) w = (k < n) × (m < n)

-- "lists that deliver any other aren't meant"
abbrev pub AllMeant : ℕ → List Event → World → Type 0
AllMeant n [] w = Unit
AllMeant n (e ∷ es) w = Meant n e w × AllMeant n es (after e w)
