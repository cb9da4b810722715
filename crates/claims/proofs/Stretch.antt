-- Stretches of keys: all keys from one of them to one of them (`Stretch`). In order: a stretch rises and is of the keys; all keys, and those from lo to hi; a
-- part of a stretch, such as what lies strictly inside it. Assumes nothing.
use Prim.Native.Nat.{ℕ, ◌≤◌, ◌<◌}
use mathlib.Core.List.Memᴰ
use mathlib.Core.List.{List, [], ◌∷◌, ◌++◌, Memᴰ, append-nil}
use mathlib.Core.Path.{◌≡◌, sym, ap, ap₂, ◌∙◌, subst}
use native.Mathlib.Omega.{arith}
use lib.ListN.{length}
use Rattle.keys.proofs.Rising.{Rising, Sub, mem_length, rising_append_left, rising_append_right, rising_append_lt}
use Rattle.claims.specs.Claim.{between}
use Rattle.claims.proofs.Between.{mem_between, between_rising, between_sub, between_none, between_between, between_append, inside, between_inside}
use Rattle.claims.proofs.Span.{first, last, mem_first, mem_last, first_le, le_last, between_first_last, first_between, last_between}

-- w is all keys of u from its first to its last
pub record Stretch (u w : List ℕ) : Type 0 where
  pub some : 0 < length w
  pub whole : between (first w) (last w) u ≡ w

pub stretch_rising : (u w : List ℕ) → Rising u → Stretch u w → Rising w
stretch_rising u w r t = subst Rising t.whole (between_rising (first w) (last w) u r)

pub stretch_sub : (u w : List ℕ) → Stretch u w → Sub w u
stretch_sub u w t = subst (λ (l : List ℕ). Sub l u) t.whole (between_sub (first w) (last w) u)

-- ---- all keys, and those from lo to hi

pub stretch_all : (u : List ℕ) → Rising u → 0 < length u → Stretch u u
stretch_all u r h = record { some = h; whole = between_first_last u r }

pub stretch_between : (u : List ℕ) (lo hi : ℕ) → Rising u → lo ≤ hi → Memᴰ lo u → Memᴰ hi u → Stretch u (between lo hi u)
stretch_between u lo hi r h m n = record {
  some = mem_length (between lo hi u) lo (mem_between lo hi u lo m (omega arith) h);
  whole = ap₂ (λ (x y : ℕ). between x y u) (first_between lo hi u r h m) (last_between lo hi u r h n);
}

-- ---- a part

-- of rising keys a ++ (m ++ b), those from the first of m to its last
between_part : (a m b : List ℕ) → Rising (a ++ (m ++ b)) → 0 < length m → between (first m) (last m) (a ++ (m ++ b)) ≡ m
between_part a m b r h =
    between_append (first m) (last m) a (m ++ b)
    ∙ ap₂ (λ (x y : List ℕ). x ++ y)
    (between_none (first m) (last m) a (λ k i p q. before (rising_append_lt a (m ++ b) r k (first m) i (Memᴰ.append_left b (mem_first m h))) p))
    (between_append (first m) (last m) m b
    ∙ ap₂ (λ (x y : List ℕ). x ++ y) (between_first_last m (rising_append_left m b mb))
    (between_none (first m) (last m) b (λ k i p q. before (rising_append_lt m b mb (last m) k (mem_last m h) i) q))
    ∙ append-nil m)
  where
    mb : Rising (m ++ b)
    mb = rising_append_right a (m ++ b) r

    before : {j k : ℕ} → j < k → k ≤ j → ⊥
    before g f = omega arith

pub stretch_part : (u w a m b : List ℕ) → Rising u → Stretch u w → w ≡ a ++ (m ++ b) → 0 < length m → Stretch u m
stretch_part u w a m b r t e h = record {
  some = h;
  whole =
      sym (between_between (first w) (last w) (first m) (last m) u (first_le w rises (first m) (of_w (first m) (mem_first m h)))
      (le_last w rises (last m) (of_w (last m) (mem_last m h))))
      ∙ ap (between (first m) (last m)) (t.whole ∙ e)
      ∙ between_part a m b (subst Rising e rises) h;
}
  where
    rises : Rising w
    rises = stretch_rising u w r t

    of_w : Sub m w
    of_w k n = subst (λ (l : List ℕ). Memᴰ k l) (sym e) (Memᴰ.append_right a (Memᴰ.append_left b n))

-- the keys strictly between lo and hi, both of them in u
pub stretch_inside : (u : List ℕ) (lo hi : ℕ) → Rising u → lo < hi → Memᴰ lo u → Memᴰ hi u → 0 < length (inside lo hi u) → Stretch u (inside lo hi u)
stretch_inside u lo hi r h m n some =
    stretch_part u (between lo hi u) (lo ∷ []) (inside lo hi u) (hi ∷ []) r (stretch_between u lo hi r (omega arith) m n) (between_inside lo hi u r h m n) some
