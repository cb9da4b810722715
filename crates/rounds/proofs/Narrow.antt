-- What a round notes fits a record's bytes: the sender a byte, cnt two, since it is at most the limit. In order: one delivery, a run, a half, a round.
-- Assumes nothing.
use Prim.Native.Nat.{ℕ, zero, suc, ◌≤◌, ◌<◌}
use native.Mathlib.Nat.{le_of_suc-le-suc, not-suc-le-zero}
use mathlib.Core.List.{List, [], ◌∷◌, ◌++◌, map}
use mathlib.Core.Path.{◌≡◌, sym, ap, subst}
use native.Mathlib.Omega.{arith}
use lib.Dec.{lit<}
use lib.ListN.{length, get_or}
use Rattle.keys.specs.Store.{limit}
use Rattle.keys.proofs.Rising.{Rising}
use Rattle.rule.specs.declared.delivery.Delivery.{Delivery}
use Rattle.rule.specs.Round.{union, End, left_end, right_end, sender_number, Pair, pair, Entry, delivered, answers, Line, Run, run, half, round_of}
use Rattle.rule.proofs.Pair.{Rises, rises_pair, union_of}
use Rattle.rule.proofs.Half.{Fine, fine_passes, fine_step, opening, halfway_opening, half_run, half_fine, half_union}
use Rattle.rule.proofs.RoundLaws.{round_of_halves}

pub record Narrow (d : Delivery) : Type 0 where
  pub sender : d.sender < 256
  pub cnt : d.claim.cnt ≤ limit

abbrev pub AllNarrow : List Line → Type 0
AllNarrow [] = Unit {0}
AllNarrow (x ∷ xs) = Narrow x.delivery × AllNarrow xs

-- a place of the transcript has a narrow record
pub all_narrow_get_d : (xs : List Line) (n : ℕ) (d : Delivery) → AllNarrow xs → n < length xs → Narrow (get_or (map (λ (x : Line). x.delivery) xs) n d)
all_narrow_get_d [] n d a h = absurd (not-suc-le-zero h)
all_narrow_get_d (x ∷ xs) zero d a h = a.0
all_narrow_get_d (x ∷ xs) (suc n) d a h = all_narrow_get_d xs n d a.1 (le_of_suc-le-suc h)

all_narrow_append : (xs ys : List Line) → AllNarrow xs → AllNarrow ys → AllNarrow (xs ++ ys)
all_narrow_append [] ys a b = b
all_narrow_append (x ∷ xs) ys a b = (a.0, all_narrow_append xs ys a.1 b)

sender_number_narrow : (s : End) → sender_number s < 256
sender_number_narrow left_end = lit< tt
sender_number_narrow right_end = lit< tt

run_narrow : (n : ℕ) (u : List ℕ) (p : Pair) (q : List Entry) → Fine u p q → AllNarrow (run n p q).lines
unfolding run
run_narrow zero u p q f = tt
run_narrow (suc n) u p [] f = tt
run_narrow (suc n) u p (e ∷ q) f = (
  record { sender = sender_number_narrow e.sender; cnt = (fine_passes u p e q f).at_most },
  run_narrow n u (delivered e p) (q ++ answers e p) (fine_step u p e q f),
)

half_narrow : (s : End) (p : Pair) → Rises p → length (union_of p) ≤ limit → AllNarrow (half s p).lines
half_narrow s p r h = subst (λ (x : Run). AllNarrow x.lines) (sym (half_run s p))
    (run_narrow (length (union_of p)) (union_of p) p (opening s p) (halfway_opening s p r h).fine)

pub round_narrow : (l r : List ℕ) → Rising l → Rising r → length (union l r) ≤ limit → AllNarrow (round_of l r).lines
round_narrow l r a b h =
    let p : Pair = pair l r in
    let rises : Rises p = rises_pair l r a b in
    let e : length (union_of (half left_end p).stores) ≡ length (union l r) = ap length (half_union left_end p rises h) in
    subst (λ (x : Run). AllNarrow x.lines) (sym (round_of_halves l r))
    (all_narrow_append (half left_end p).lines (half right_end (half left_end p).stores).lines (half_narrow left_end p rises h)
    (half_narrow right_end (half left_end p).stores (half_fine left_end p rises h).rises (omega (arith, e))))
