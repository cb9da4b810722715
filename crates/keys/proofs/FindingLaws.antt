-- What quartering and halving find among rising keys (specs/Lent, `quartered`, `halved`, `place_in`): the last key that is at most the one looked for,
-- and from it the position of that one and whether it is held. The idea: every key past what is left is greater, and the first one left is not, unless
-- it is the first of all. Assumes nothing.
use mathlib.Core.Path.{◌≡◌, refl, sym, ◌∙◌, ap}
use mathlib.Core.Bool.{Bool, true, false, cond, ◌&&◌}
use mathlib.Core.Logic.{◌⊎◌, inl, inr, ⊎_elim}
use mathlib.Core.List.{List, [], ◌∷◌, ◌++◌}
use Prim.Native.Nat.{ℕ, zero, suc, ◌+◌, ◌-◌, ◌*◌, ◌/◌, ◌≤◌, ◌<◌}
use native.Mathlib.Numerals.{add-one}
use native.Mathlib.Omega.{arith}
use borrow.Author.Tests.{lt-ltb, le-ltb, le-leb, ne_eqb, leb-true, leb-false}
use lib.Dec.{ltb, leb, eqb}
use lib.ListN.{length, get_or, length-append, get_or-append}
use Rattle.keys.specs.Store.{position, holds}
use Rattle.keys.specs.Lent.{halved, quarter_of, quartered, place_at, place_in}
use Rattle.keys.proofs.Tests.{lt_or_le}
use Rattle.keys.proofs.Rising.{Rising, rising_get_d, rising_get_d_le}
use Rattle.keys.proofs.Position.{position_is, holds_position}
use Rattle.keys.proofs.HalvingLaws.{halved_one}
use Rattle.keys.proofs.QuarteringLaws.{kept_from, kept_end, quartered_few, quartered_many}

-- b is where the last key that is at most `key` stands, or 0 where there is none
pub record Found (l : List ℕ) (key b : ℕ) : Type 0 where
  pub inside : b < length l
  pub past : (j : ℕ) → b < j → j < length l → key < get_or l j 0
  pub at_most : (b ≡ 0) ⊎ (get_or l b 0 ≤ key)

-- of four quarters, the one kept begins with a key that is at most `key`, unless it is the first, and the next with a greater one, unless it is the last
record Kept (l : List ℕ) (key base width up : ℕ) : Type 0 where
  from : (up ≡ 0) ⊎ (get_or l (base + width * up) 0 ≤ key)
  to : (up ≡ 3) ⊎ (key < get_or l (base + width * up + width) 0)

module _ (l : List ℕ) (key : ℕ) (rise : Rising l) where
  pub halved_found : (n base size : ℕ) → size ≤ n → 0 < size → base + size ≤ length l
      → ((j : ℕ) → base + size ≤ j → j < length l → key < get_or l j 0)
      → (base ≡ 0) ⊎ (get_or l base 0 ≤ key)
      → Found l key (halved n l key base size)
  halved_found zero base size h g f past low = absurd (omega arith)
  halved_found (suc n) base size h g f past low =
      ⊎_elim {C = Found l key (halved (suc n) l key base size)}
      (λ (two : 1 < size). more two (leb (get_or l (base + size / 2) 0) key) refl (halved_found n))
      (λ (one : size ≤ 1).
      let e : base ≡ halved (suc n) l key base size = sym (halved_one l key (suc n) base size one) in
      rw (← e) (record { inside = omega arith; past = λ j p q. past j (omega arith) q; at_most = low }))
      (lt_or_le 1 size)
    where
      more : 1 < size → (t : Bool) → leb (get_or l (base + size / 2) 0) key ≡ t
          → ((b s : ℕ) → s ≤ n → 0 < s → b + s ≤ length l → ((j : ℕ) → b + s ≤ j → j < length l → key < get_or l j 0)
          → (b ≡ 0) ⊎ (get_or l b 0 ≤ key) → Found l key (halved n l key b s))
          → Found l key (halved n l key (cond t (base + size / 2) base) (size - size / 2))
      more two true e again =
          again (base + size / 2) (size - size / 2) (omega arith) (omega arith) (omega arith)
          (λ j p q. past j (omega arith) q)
          (inr (leb-true (get_or l (base + size / 2) 0) key e))
      more two false e again =
          again base (size - size / 2) (omega arith) (omega arith) (omega arith)
          (λ j p q.
          let m : key < get_or l (base + size / 2) 0 = leb-false (get_or l (base + size / 2) 0) key e in
          let up : get_or l (base + size / 2) 0 ≤ get_or l j 0 = rising_get_d_le l rise (base + size / 2) j (omega arith) q in
          omega arith)
          low

  -- of rising keys, those that are at most `key` come first
  kept_rising : (base width : ℕ) → base + width + width + width < length l → Kept l key base width (quarter_of l key base width)
  kept_rising base width fits =
      go (leb (get_or l (base + width) 0) key) refl (leb (get_or l (base + width + width) 0) key) refl
      (leb (get_or l (base + width + width + width) 0) key) refl
    where
      third : get_or l (base + width) 0 ≤ get_or l (base + width + width) 0
      third = rising_get_d_le l rise (base + width) (base + width + width) (omega arith) (omega arith)

      fourth : get_or l (base + width + width) 0 ≤ get_or l (base + width + width + width) 0
      fourth = rising_get_d_le l rise (base + width + width) (base + width + width + width) (omega arith) fits

      go : (a : Bool) → leb (get_or l (base + width) 0) key ≡ a
          → (b : Bool) → leb (get_or l (base + width + width) 0) key ≡ b
          → (c : Bool) → leb (get_or l (base + width + width + width) 0) key ≡ c
          → Kept l key base width (cond a 1 0 + cond b 1 0 + cond c 1 0)
      go false e false f false g =
          let to : base + width * 0 + width ≡ base + width = omega arith in
          record { from = inl refl; to = inr (rw to (leb-false (get_or l (base + width) 0) key e)) }
      go true e false f false g =
          let from : base + width * 1 ≡ base + width = omega arith in
          record { from = inr (rw from (leb-true (get_or l (base + width) 0) key e)); to = inr (rw from (leb-false (get_or l (base + width + width) 0) key f)) }
      go true e true f false g =
          let from : base + width * 2 ≡ base + width + width = omega arith in
          record {
            from = inr (rw from (leb-true (get_or l (base + width + width) 0) key f));
            to = inr (rw from (leb-false (get_or l (base + width + width + width) 0) key g));
          }
      go true e true f true g =
          let from : base + width * 3 ≡ base + width + width + width = omega arith in
          record { from = inr (rw from (leb-true (get_or l (base + width + width + width) 0) key g)); to = inl refl }
      go false e true f c g = absurd (omega (arith, third, leb-false (get_or l (base + width) 0) key e, leb-true (get_or l (base + width + width) 0) key f))
      go a e false f true g =
          absurd (omega (arith, fourth, leb-false (get_or l (base + width + width) 0) key f, leb-true (get_or l (base + width + width + width) 0) key g))

  pub quartered_found : (n base size : ℕ) → 0 < size → base + size ≤ length l
      → ((j : ℕ) → base + size ≤ j → j < length l → key < get_or l j 0)
      → (base ≡ 0) ⊎ (get_or l base 0 ≤ key)
      → Found l key (quartered n l key base size)
  quartered_found zero base size g f past low = halved_found size base size (omega arith) g f past low
  quartered_found (suc n) base size g f past low = ⊎_elim {C = Found l key (quartered (suc n) l key base size)}
      (λ (few : size < 4). rw (quartered_few l key (suc n) base size few) (halved_found size base size (omega arith) g f past low))
      (λ (many : 4 ≤ size).
      let kept : Kept l key base (size / 4) (quarter_of l key base (size / 4)) = kept_rising base (size / 4) (omega arith) in
      rw (quartered_many l key n base size many)
      (quartered_found n (kept_from l key base size) (size - 3 * (size / 4)) (omega arith) (omega (arith, kept_end l key base size))
      (later many (quarter_of l key base (size / 4)) kept.to)
      (sooner (quarter_of l key base (size / 4)) kept.from)))
      (lt_or_le size 4)
    where
      later : 4 ≤ size → (up : ℕ) → (up ≡ 3) ⊎ (key < get_or l (base + size / 4 * up + size / 4) 0)
          → (j : ℕ) → base + size / 4 * up + (size - 3 * (size / 4)) ≤ j → j < length l → key < get_or l j 0
      later many up (inl e) j p q = let w : size / 4 * up ≡ 3 * (size / 4) = rw e (omega arith) in past j (omega arith) q
      later many up (inr h) j p q =
          let r : get_or l (base + size / 4 * up + size / 4) 0 ≤ get_or l j 0 = rising_get_d_le l rise (base + size / 4 * up + size / 4) j (omega arith) q in
          omega arith

      sooner : (up : ℕ) → (up ≡ 0) ⊎ (get_or l (base + size / 4 * up) 0 ≤ key) → (base + size / 4 * up ≡ 0) ⊎ (get_or l (base + size / 4 * up) 0 ≤ key)
      sooner up (inl e) = let w : base + size / 4 * up ≡ base = rw e (omega arith) in rw w low
      sooner up (inr h) = inr h

  -- all of the keys, quartered
  pub quartered_all : 0 < length l → Found l key (quartered (length l) l key 0 (length l))
  quartered_all h = quartered_found (length l) 0 (length l) h (omega arith) (λ j p q. absurd (omega arith)) (inl refl)

  -- from the key found to the position: the place of the key
  module _ (b : ℕ) (found : Found l key b) where
    before : (i : ℕ) → i ≤ b → get_or l i 0 ≤ get_or l b 0
    before i h = rising_get_d_le l rise i b h found.inside

    next : (suc b ≡ length l) ⊎ (key ≤ get_or l (suc b) 0)
    next = ⊎_elim {C = (suc b ≡ length l) ⊎ (key ≤ get_or l (suc b) 0)}
        (λ (h : suc b < length l). let p : key < get_or l (suc b) 0 = found.past (suc b) (omega arith) h in inr (omega arith))
        (λ (h : length l ≤ suc b). let i = found.inside in inl (omega arith))
        (lt_or_le (suc b) (length l))

    position_after_found : get_or l b 0 < key → position key l ≡ suc b
    position_after_found h = position_is key l (suc b) found.inside (λ j p. let q : get_or l j 0 ≤ get_or l b 0 = before j (omega arith) in omega arith) next

    position_at_found : key ≤ get_or l b 0 → position key l ≡ b
    position_at_found h = let i = found.inside in position_is key l b (omega arith) lesser (inr h)
      where
        lesser : (j : ℕ) → j < b → get_or l j 0 < key
        lesser j p = ⊎_elim {C = get_or l j 0 < key}
            (λ (e : b ≡ 0). absurd (omega arith))
            (λ (m : get_or l b 0 ≤ key). let q : get_or l j 0 < get_or l b 0 = rising_get_d l rise j b p found.inside in omega arith)
            found.at_most

    holds_after_found : get_or l b 0 < key → holds key l ≡ false
    holds_after_found h =
        holds_position key l rise
        ∙ rw (position_after_found h)
        (⊎_elim {C = (ltb (suc b) (length l) && eqb (get_or l (suc b) 0) key) ≡ false} ends goes_on (lt_or_le (length l) (suc (suc b))))
      where
        ends : length l < suc (suc b) → (ltb (suc b) (length l) && eqb (get_or l (suc b) 0) key) ≡ false
        ends p = rw (le-ltb (suc b) (length l) (omega arith))

        goes_on : suc (suc b) ≤ length l → (ltb (suc b) (length l) && eqb (get_or l (suc b) 0) key) ≡ false
        goes_on p =
            let q : key < get_or l (suc b) 0 = found.past (suc b) (omega arith) p in
            rw (lt-ltb (suc b) (length l) p, ne_eqb (get_or l (suc b) 0) key (λ (e : get_or l (suc b) 0 ≡ key). omega arith))

    holds_at_found : key ≤ get_or l b 0 → holds key l ≡ eqb (get_or l b 0) key
    holds_at_found h = holds_position key l rise ∙ rw (position_at_found h, lt-ltb b (length l) found.inside)

    pub place_at_found : place_at b (get_or l b 0) key ≡ record { at = position key l; held = holds key l }
    place_at_found = ⊎_elim {C = place_at b (get_or l b 0) key ≡ record { at = position key l; held = holds key l }}
        (λ (h : get_or l b 0 < key). rw (lt-ltb (get_or l b 0) key h, position_after_found h, holds_after_found h, add-one b))
        (λ (h : key ≤ get_or l b 0). rw (le-ltb (get_or l b 0) key h, position_at_found h, holds_at_found h))
        (lt_or_le (get_or l b 0) key)

-- halving reads only the keys that it halves
pub halved_agree : (n : ℕ) (a b : List ℕ) (key base size m : ℕ) → 0 < size → base + size ≤ m → ((i : ℕ) → i < m → get_or a i 0 ≡ get_or b i 0)
    → halved n a key base size ≡ halved n b key base size
halved_agree zero a b key base size m h g f = refl
halved_agree (suc n) a b key base size m h g f =
    rw (f (base + size / 2) (omega arith))
    (go (leb (get_or b (base + size / 2) 0) key) (λ base' p. halved_agree n a b key base' (size - size / 2) m (omega arith) p f))
  where
    go : (t : Bool) → ((base' : ℕ) → base' + (size - size / 2) ≤ m → halved n a key base' (size - size / 2) ≡ halved n b key base' (size - size / 2))
        → halved n a key (cond t (base + size / 2) base) (size - size / 2) ≡ halved n b key (cond t (base + size / 2) base) (size - size / 2)
    go true again = again (base + size / 2) (omega arith)
    go false again = again base (omega arith)

-- which quarter is kept depends only on the keys that the quarters begin with
quarter_of_agree : (a b : List ℕ) (key base width m : ℕ) → base + width + width + width < m → ((i : ℕ) → i < m → get_or a i 0 ≡ get_or b i 0)
    → quarter_of a key base width ≡ quarter_of b key base width
quarter_of_agree a b key base width m h f =
    rw (f (base + width) (omega arith), f (base + width + width) (omega arith), f (base + width + width + width) (omega arith))

-- and so does quartering
pub quartered_agree : (n : ℕ) (a b : List ℕ) (key base size m : ℕ) → 0 < size → base + size ≤ m → ((i : ℕ) → i < m → get_or a i 0 ≡ get_or b i 0)
    → quartered n a key base size ≡ quartered n b key base size
quartered_agree zero a b key base size m h g f = halved_agree size a b key base size m h g f
quartered_agree (suc n) a b key base size m h g f = ⊎_elim {C = quartered (suc n) a key base size ≡ quartered (suc n) b key base size}
    (λ (few : size < 4).
    quartered_few a key (suc n) base size few ∙ halved_agree size a b key base size m h g f ∙ sym (quartered_few b key (suc n) base size few))
    (λ (many : 4 ≤ size).
    quartered_many a key n base size many
    ∙ ap (λ (up : ℕ). quartered n a key (base + size / 4 * up) (size - 3 * (size / 4))) (quarter_of_agree a b key base (size / 4) m (omega arith) f)
    ∙ quartered_agree n a b key (kept_from b key base size) (size - 3 * (size / 4)) m (omega arith) (omega (arith, kept_end b key base size)) f
    ∙ sym (quartered_many b key n base size many))
    (lt_or_le size 4)

-- the place of a key among rising keys at the front of a run: its position, and whether it is held
pub place_in_front : (l rest : List ℕ) (key : ℕ) → Rising l → place_in (l ++ rest) (length l) key ≡ record { at = position key l; held = holds key l }
unfolding place_in
place_in_front [] rest key r = refl
place_in_front (k ∷ ks) rest key r =
    let l : List ℕ = k ∷ ks in
    let some : 0 < length l = omega arith in
    let long : length l ≤ length (l ++ rest) = omega (arith, length-append l rest) in
    let found : Found l key (quartered (length l) l key 0 (length l)) = quartered_all l key r some in
    let same_b : quartered (length l) (l ++ rest) key 0 (length l) ≡ quartered (length l) l key 0 (length l) =
    quartered_agree (length l) (l ++ rest) l key 0 (length l) (length l) some (omega arith) (λ i h. get_or-append l rest 0 i h) in
    let same_key : get_or (l ++ rest) (quartered (length l) l key 0 (length l)) 0 ≡ get_or l (quartered (length l) l key 0 (length l)) 0 =
    get_or-append l rest 0 (quartered (length l) l key 0 (length l)) found.inside in
    rw (lt-ltb 0 (length l) some, le-leb (length l) (length (l ++ rest)) long, same_b, same_key)
    (place_at_found l key r (quartered (length l) l key 0 (length l)) found)
