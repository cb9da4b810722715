-- Halving, by which the last few keys are searched (specs/Lent, `halved`): of one key and of two, and that one of the keys is found.
-- What halving finds among rising keys is in FindingLaws. Assumes nothing.
use mathlib.Core.Path.{◌≡◌, refl, ◌∙◌, ap}
use mathlib.Core.Bool.{Bool, true, false, cond}
use mathlib.Core.List.{List}
use Prim.Native.Nat.{ℕ, zero, suc, ◌+◌, ◌-◌, ◌/◌, ◌≤◌, ◌<◌}
use native.Mathlib.Omega.{arith}
use lib.Dec.{leb}
use lib.ListN.{get_or}
use Rattle.keys.specs.Lent.{halved}

pub cond_same : {A : Type 0} (t : Bool) (x y : A) → x ≡ y → cond t x y ≡ y
cond_same true x y e = e
cond_same false x y e = refl

-- what no more fuel changes from m on is what it is at m
pub settled : {A : Type 0} (f : ℕ → A) (m : ℕ) → ((n : ℕ) → m ≤ n → f (suc n) ≡ f n) → (n : ℕ) → m ≤ n → f n ≡ f m
settled f m same n h = let e : n ≡ n - m + m = omega arith in ap f e ∙ go (n - m)
  where
    go : (d : ℕ) → f (d + m) ≡ f m
    go zero = let e : 0 + m ≡ m = omega arith in ap f e
    go (suc d) = let e : suc d + m ≡ suc (d + m) = omega arith in ap f e ∙ (same (d + m) (omega arith) ∙ go d)

module _ (keys : List ℕ) (key : ℕ) where
  -- one key needs no halving
  pub halved_one : (n base size : ℕ) → size ≤ 1 → halved n keys key base size ≡ base
  halved_one zero base size h = refl
  halved_one (suc n) base size h =
      halved_one n (cond (leb (get_or keys (base + size / 2) 0) key) (base + size / 2) base) (size - size / 2) (omega arith)
      ∙ cond_same (leb (get_or keys (base + size / 2) 0) key) (base + size / 2) base (omega arith)

  -- of two keys the second is found where it is at most `key`
  pub halved_two : (base : ℕ) → halved 2 keys key base 2 ≡ cond (leb (get_or keys (base + 1) 0) key) (base + 1) base
  halved_two base = halved_one 1 (cond (leb (get_or keys (base + 1) 0) key) (base + 1) base) 1 (omega arith)

-- what halving finds is one of the keys
pub halved_lt : (n : ℕ) (keys : List ℕ) (key base size : ℕ) → 0 < size → halved n keys key base size < base + size
halved_lt zero keys key base size h = omega arith
halved_lt (suc n) keys key base size h =
    go (leb (get_or keys (base + size / 2) 0) key) (λ b. halved_lt n keys key b (size - size / 2) (omega arith))
  where
    go : (t : Bool) → ((b : ℕ) → halved n keys key b (size - size / 2) < b + (size - size / 2))
        → halved n keys key (cond t (base + size / 2) base) (size - size / 2) < base + size
    go true f = omega (arith, f (base + size / 2))
    go false f = omega (arith, f base)
