-- Both stores of a round: `keys_at`, `holding` and `delivered` of Round. In order: one end's keys replaced; a delivery adds what hearing its claim
-- adds at the receiver and nothing else; pairs that rise, lie within keys, grow; how many keys both have. Assumes nothing.
use Prim.Native.Nat.{ℕ, ◌+◌, ◌≤◌}
use mathlib.Core.List.{List}
use mathlib.Core.Path.{◌≡◌, refl, ap, ◌∙◌}
use native.Mathlib.Omega.{arith}
use lib.ListN.{length}
use Rattle.keys.proofs.Rising.{Rising, Sub, sub_refl, sub_trans}
use Rattle.claims.specs.Reply.{adding, hear}
use Rattle.claims.proofs.ReplyLaws.{hear_old, hear_sub, hear_rising, length_hear_ge, hear_same}
use Rattle.rule.specs.Round.{union, End, left_end, right_end, other, Pair, pair, keys_at, holding, Entry, receiver, keys_before, delivered}
use Rattle.rule.proofs.Union.{union_rising, union_left, union_right, union_grown}

-- ---- one end's keys replaced

pub keys_at_holding : (s : End) (l : List ℕ) (p : Pair) → keys_at s (holding s l p) ≡ l
keys_at_holding left_end l p = refl
keys_at_holding right_end l p = refl

pub keys_at_holding_other : (s : End) (l : List ℕ) (p : Pair) → keys_at s (holding (other s) l p) ≡ keys_at s p
keys_at_holding_other left_end l p = refl
keys_at_holding_other right_end l p = refl

pub other_other : (s : End) → other (other s) ≡ s
other_other left_end = refl
other_other right_end = refl

-- what holds of the new keys and of each end's old ones holds of each end's keys
pub holding_each : (P : End → List ℕ → Type 0) (t : End) (l : List ℕ) (p : Pair) → P t l → ((s : End) → P s (keys_at s p)) → (s : End) →
    P s (keys_at s (holding t l p))
holding_each P left_end l p h f left_end = h
holding_each P left_end l p h f right_end = f right_end
holding_each P right_end l p h f left_end = f left_end
holding_each P right_end l p h f right_end = h

pub holding_same : (s : End) (p : Pair) → holding s (keys_at s p) p ≡ p
holding_same left_end p = refl
holding_same right_end p = refl

-- ---- a delivery

pub keys_at_receiver : (e : Entry) (p : Pair) → keys_at (receiver e) (delivered e p) ≡ hear e.claim (keys_before e p)
keys_at_receiver e p = keys_at_holding (receiver e) (hear e.claim (keys_before e p)) p

pub keys_at_sender : (e : Entry) (p : Pair) → keys_at e.sender (delivered e p) ≡ keys_at e.sender p
keys_at_sender e p = keys_at_holding_other e.sender (hear e.claim (keys_before e p)) p

-- ---- pairs that rise, lie within keys, grow

abbrev pub Rises : Pair → Type 0
Rises p = (s : End) → Rising (keys_at s p)

abbrev pub Within : Pair → List ℕ → Type 0
Within p u = (s : End) → Sub (keys_at s p) u

abbrev pub Grows : Pair → Pair → Type 0
Grows p p' = (s : End) → Sub (keys_at s p) (keys_at s p')

pub grows_refl : (p : Pair) → Grows p p
grows_refl p s = sub_refl (keys_at s p)

pub grows_trans : (p q r : Pair) → Grows p q → Grows q r → Grows p r
grows_trans p q r g h s = sub_trans (keys_at s p) (keys_at s q) (keys_at s r) (g s) (h s)

abbrev pub union_of : Pair → List ℕ
union_of p = union p.left p.right

pub rises_pair : (l r : List ℕ) → Rising l → Rising r → Rises (pair l r)
rises_pair l r p q left_end = p
rises_pair l r p q right_end = q

pub within_union_of : (p : Pair) → Within p (union_of p)
within_union_of p left_end = union_left p.left p.right
within_union_of p right_end = union_right p.left p.right

pub union_of_rising : (p : Pair) → Rises p → Rising (union_of p)
union_of_rising p r = union_rising p.left p.right (r right_end)

pub union_of_grown : (p p' : Pair) → Rises p → Rises p' → Grows p p' → Within p' (union_of p) → union_of p' ≡ union_of p
union_of_grown p p' r r' g w =
    union_grown p.left p.right p'.left p'.right (r right_end) (r' right_end) (g left_end) (g right_end) (w left_end) (w right_end)

pub delivered_rises : (e : Entry) (p : Pair) → Rises p → Rises (delivered e p)
delivered_rises e p r =
    holding_each (λ (s : End) (l : List ℕ). Rising l) (receiver e) (hear e.claim (keys_before e p)) p
    (hear_rising e.claim (keys_before e p) (r (receiver e))) r

pub delivered_within : (e : Entry) (p : Pair) (u : List ℕ) → Sub (adding e.claim (keys_before e p)) u → Within p u → Within (delivered e p) u
delivered_within e p u h w =
    holding_each (λ (s : End) (l : List ℕ). Sub l u) (receiver e) (hear e.claim (keys_before e p)) p
    (hear_sub e.claim (keys_before e p) u h (w (receiver e))) w

pub delivered_grows : (e : Entry) (p : Pair) → Grows p (delivered e p)
delivered_grows e p =
    holding_each (λ (s : End) (l : List ℕ). Sub (keys_at s p) l) (receiver e) (hear e.claim (keys_before e p)) p
    (hear_old e.claim (keys_before e p)) (grows_refl p)

-- ---- how many keys both have

abbrev pub size : Pair → ℕ
size p = length p.left + length p.right

holding_size : (t : End) (l : List ℕ) (p : Pair) → length (keys_at t p) ≤ length l → size p ≤ size (holding t l p)
holding_size left_end l p h = omega arith
holding_size right_end l p h = omega arith

holding_size_le : (t : End) (l : List ℕ) (p : Pair) → size (holding t l p) ≤ size p → length l ≤ length (keys_at t p)
holding_size_le left_end l p h = omega arith
holding_size_le right_end l p h = omega arith

pub delivered_size : (e : Entry) (p : Pair) → size p ≤ size (delivered e p)
delivered_size e p = holding_size (receiver e) (hear e.claim (keys_before e p)) p (length_hear_ge e.claim (keys_before e p))

-- a delivery after which there are no more keys changed nothing
pub delivered_heard : (e : Entry) (p : Pair) → Rises p → size (delivered e p) ≤ size p → hear e.claim (keys_before e p) ≡ keys_before e p
delivered_heard e p r h =
    hear_same e.claim (keys_before e p) (r (receiver e)) (holding_size_le (receiver e) (hear e.claim (keys_before e p)) p h)

pub delivered_same : (e : Entry) (p : Pair) → Rises p → size (delivered e p) ≤ size p → delivered e p ≡ p
delivered_same e p r h = ap (λ (l : List ℕ). holding (receiver e) l p) (delivered_heard e p r h) ∙ holding_same (receiver e) p
