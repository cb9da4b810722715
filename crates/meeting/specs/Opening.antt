-- What document 02, slip 5, says of a round: what it comes to where the left store is empty, and, more generally, where one store has all keys of the
-- other. The theorems are `met_opening` of proofs/Opening and `met_fuller` of proofs/Fuller; nothing is said of matches in either. Assumes nothing.
use Rattle.std.specs.Prelude.{ℕ, ◌⊎◌, ◌≡◌}
use mathlib.Core.List.{List, Memᴰ}
use Rattle.keys.specs.declared.store.Store.{Store}
use Rattle.keys.specs.Store.{store_of}
use Rattle.rule.specs.Answer.{Met}
use Rattle.opening.specs.Cost.{opening_cost}

-- What the round of an empty left store and the store t returns: "The round then makes E(n) deliveries for n from 1 on and none for n = 0, whichever keys
-- they are. After it the two stores are equal." (document 02, slip 5)
abbrev pub after_opening : Store → Met
after_opening t = record { number = 0; left = t; right = t; deliveries = opening_cost t.count }

-- the keys l have all of the keys m
abbrev pub HasAll : List ℕ → List ℕ → Type 0
HasAll l m = (k : ℕ) → Memᴰ k m → Memᴰ k l

-- of two stores, one has all keys of the other
abbrev pub OneHasAll : List ℕ → List ℕ → Type 0
OneHasAll l r = HasAll l r ⊎ HasAll r l

-- both stores that a round returns hold the keys l, and nothing else in any place
pub record BothHold (l : List ℕ) (m : Met) : Type 0 where
  pub left : m.left ≡ store_of l
  pub right : m.right ≡ store_of l
