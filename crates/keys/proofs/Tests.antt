-- Tests: what a conjunction of them says of its parts, and the cases of an order and of an equation of numbers.
-- Not here: what a single test says (`ltb-true`, `lt-ltb` and the rest, in borrow.Author.Tests). Assumes nothing.
use Prim.Native.Nat.{ℕ, ◌≤◌, ◌<◌}
use mathlib.Core.Bool.{Bool, true, false, ◌&&◌, false≢true}
use mathlib.Core.Logic.{◌⊎◌, inl, inr, ⊎_elim}
use mathlib.Core.Path.{◌≡◌, refl}
use native.Mathlib.Omega.{arith}
use borrow.Author.Tests.{ltb-true, ltb-false, eqb-true, eqb-false}
use lib.Dec.{ltb, eqb}

pub and_left : (a b : Bool) → (a && b) ≡ true → a ≡ true
and_left true b h = refl
and_left false b h = h

pub and_right : (a b : Bool) → (a && b) ≡ true → b ≡ true
and_right true b h = h
and_right false b h = absurd (false≢true h)

pub and_both : (a b : Bool) → a ≡ true → b ≡ true → (a && b) ≡ true
and_both true b h k = k
and_both false b h k = h

pub lt_or_le : (a b : ℕ) → (a < b) ⊎ (b ≤ a)
lt_or_le a b = go (ltb a b) refl
  where
    go : (t : Bool) → ltb a b ≡ t → (a < b) ⊎ (b ≤ a)
    go true e = inl (ltb-true a b e)
    go false e = inr (ltb-false a b e)

-- a bound, by what its failing would say
pub le_unless : (a b : ℕ) → (b < a → ⊥) → a ≤ b
le_unless a b f = ⊎_elim {C = a ≤ b} (λ (h : b < a). absurd (f h)) (λ (h : a ≤ b). h) (lt_or_le b a)

pub eq_or_ne : (a b : ℕ) → (a ≡ b) ⊎ (a ≡ b → ⊥)
eq_or_ne a b = go (eqb a b) refl
  where
    go : (t : Bool) → eqb a b ≡ t → (a ≡ b) ⊎ (a ≡ b → ⊥)
    go true e = inl (eqb-true a b e)
    go false e = inr (eqb-false a b e)

-- the three cases of two numbers
pub data Order (a b : ℕ) : Type 0 where
  less : a < b → Order a b
  equal : a ≡ b → Order a b
  greater : b < a → Order a b

pub order : (a b : ℕ) → Order a b
order a b = go (lt_or_le a b) (eq_or_ne a b)
  where
    go : (a < b) ⊎ (b ≤ a) → (a ≡ b) ⊎ (a ≡ b → ⊥) → Order a b
    go (inl h) e = less h
    go (inr h) (inl e) = equal e
    go (inr h) (inr f) = greater (omega arith)
