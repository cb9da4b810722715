-- Halving and quartering of a part of a run (specs/Lent, `halved`, `quartered`): what they find in the part from a place on, counted from that place, is
-- what they find in the run. Assumes nothing.
use mathlib.Core.Path.{◌≡◌, refl, sym, ◌∙◌, ap}
use mathlib.Core.Bool.{Bool, true, false, cond}
use mathlib.Core.Logic.{⊎_elim}
use mathlib.Core.List.{List}
use Prim.Native.Nat.{ℕ, zero, suc, ◌+◌, ◌-◌, ◌*◌, ◌/◌, ◌≤◌, ◌<◌}
use native.Mathlib.Omega.{arith}
use lib.Dec.{leb}
use lib.ListN.{drop, get_or}
use lib.Seq.{get_or-drop}
use Rattle.keys.specs.Lent.{halved, quarter_of, quartered}
use Rattle.keys.proofs.Tests.{lt_or_le}
use Rattle.keys.proofs.QuarteringLaws.{kept_from, quartered_few, quartered_many}

module _ (keys : List ℕ) (key from : ℕ) where
  -- the part
  abbrev part : List ℕ
  part = drop from keys

  -- the key at a place of it
  key_at : (i j : ℕ) → from + i ≡ j → get_or part i 0 ≡ get_or keys j 0
  key_at i j e = get_or-drop from keys i 0 ∙ ap (λ (k : ℕ). get_or keys k 0) e

  halved_part : (n base size : ℕ) → from + halved n part key base size ≡ halved n keys key (from + base) size
  halved_part zero base size = refl
  halved_part (suc n) base size =
      rw (key_at (base + size / 2) (from + base + size / 2) (omega arith))
      (go (leb (get_or keys (from + base + size / 2) 0) key) (λ b. halved_part n b (size - size / 2)))
    where
      go : (t : Bool) → ((b : ℕ) → from + halved n part key b (size - size / 2) ≡ halved n keys key (from + b) (size - size / 2))
          → from + halved n part key (cond t (base + size / 2) base) (size - size / 2)
          ≡ halved n keys key (cond t (from + base + size / 2) (from + base)) (size - size / 2)
      go true f =
          let e : from + (base + size / 2) ≡ from + base + size / 2 = omega arith in
          f (base + size / 2) ∙ ap (λ (b : ℕ). halved n keys key b (size - size / 2)) e
      go false f = f base

  quarter_of_part : (base width : ℕ) → quarter_of part key base width ≡ quarter_of keys key (from + base) width
  quarter_of_part base width =
      rw (
        key_at (base + width) (from + base + width) (omega arith),
        key_at (base + width + width) (from + base + width + width) (omega arith),
        key_at (base + width + width + width) (from + base + width + width + width) (omega arith),
      )

  kept_part : (base size : ℕ) → from + kept_from part key base size ≡ kept_from keys key (from + base) size
  kept_part base size = rw (quarter_of_part base (size / 4)) (omega arith)

  pub quartered_part : (n base size : ℕ) → from + quartered n part key base size ≡ quartered n keys key (from + base) size
  quartered_part zero base size = halved_part size base size
  quartered_part (suc n) base size = ⊎_elim {C = from + quartered (suc n) part key base size ≡ quartered (suc n) keys key (from + base) size}
      (λ (few : size < 4).
      ap (λ (k : ℕ). from + k) (quartered_few part key (suc n) base size few)
      ∙ halved_part size base size
      ∙ sym (quartered_few keys key (suc n) (from + base) size few))
      (λ (many : 4 ≤ size).
      ap (λ (k : ℕ). from + k) (quartered_many part key n base size many)
      ∙ quartered_part n (kept_from part key base size) (size - 3 * (size / 4))
      ∙ ap (λ (b : ℕ). quartered n keys key b (size - 3 * (size / 4))) (kept_part base size)
      ∙ sym (quartered_many keys key n (from + base) size many))
      (lt_or_le size 4)
