-- A span's sum, read from the running sums (specs/Lent, `sum_at` against `xor_all` of Claim): each of them is "the XOR of all keys up to and with that place",
-- so two of them, or the one where the span begins at position 0, give the sum of a span; and so the claim of a span is made by them.
-- Not here: running sums by themselves (`keys`, proofs/SumLaws). Assumes nothing.
use Prim.Native.Nat.{ℕ, zero, suc, ◌+◌, ◌-◌, ◌≤◌, ◌<◌}
use mathlib.Core.List.{List, [], ◌∷◌}
use mathlib.Core.Path.{◌≡◌, refl, sym, ap, ap₂, ◌∙◌}
use native.Mathlib.Omega.{arith}
use borrow.Author.Tests.{ne_eqb}
use lib.Bits.{bit_xor, xor_comm, xor_zero_l, xor_zero_r}
use lib.ListN.{length, take, get_or, get_or-append}
use lib.Seq.{take-add}
use Rattle.keys.specs.Store.{limit, zeros, store_of, running_from, running}
use Rattle.keys.proofs.StoreLaws.{keys_store_of}
use Rattle.keys.proofs.SumLaws.{RightTo, get_d_right}
use Rattle.claims.specs.Claim.{span, xor_all, claim_of}
use Rattle.claims.specs.Lent.{sum_at, claim_by}
use Rattle.claims.proofs.Xor.{xor_assoc, xor_twice, xor_all_append}
use Rattle.claims.proofs.ClaimLaws.{claim_ext}

-- ---- a running sum

get_d_running_from : (x : ℕ) (l : List ℕ) (i : ℕ) → i < length l → get_or (running_from x l) i 0 ≡ bit_xor x (xor_all (take (suc i) l))
get_d_running_from x [] i h = absurd (omega arith)
get_d_running_from x (k ∷ ks) zero h = ap (bit_xor x) (sym (xor_zero_r k))
get_d_running_from x (k ∷ ks) (suc i) h = get_d_running_from (bit_xor x k) ks i (omega arith) ∙ xor_assoc x k (xor_all (take (suc i) ks))

-- "the XOR of all keys up to and with that place"
pub get_d_running : (l : List ℕ) (i : ℕ) → i < length l → get_or (running l) i 0 ≡ xor_all (take (suc i) l)
get_d_running l i h = get_d_running_from 0 l i h ∙ xor_zero_l (xor_all (take (suc i) l))

-- ---- a span's sum

module _ (l sums : List ℕ) (mark : ℕ) (r : RightTo l sums mark) where
  sum_right : (i : ℕ) → i < mark → get_or sums i 0 ≡ xor_all (take (suc i) l)
  sum_right i h = get_d_right l sums mark i r h ∙ get_d_running l i (omega (arith, r.few))

  pub sum_at_span : (i j : ℕ) → i ≤ j → j < mark → sum_at sums i j ≡ xor_all (span i j l)
  sum_at_span zero j h g =
      let e : j - 0 + 1 ≡ suc j = omega arith in
      rw e (sum_right j g)
  sum_at_span (suc i) j h g =
      let e : suc i - 1 ≡ i = omega arith in
      let cut : suc j ≡ suc i + (j - suc i + 1) = omega arith in
      let front : ℕ = xor_all (take (suc i) l) in
      let part : ℕ = xor_all (span (suc i) j l) in
      let both : xor_all (take (suc j) l) ≡ bit_xor part front =
      ap (λ (n : ℕ). xor_all (take n l)) cut
      ∙ (ap xor_all (take-add (suc i) (j - suc i + 1) l) ∙ (xor_all_append (take (suc i) l) (span (suc i) j l) ∙ xor_comm front part)) in
      rw (ne_eqb (suc i) 0 (λ (z : suc i ≡ 0). omega arith), e)
      (ap₂ bit_xor (sum_right j g ∙ both) (sum_right i (omega arith)) ∙ xor_twice part front)

  -- reading below the count, the run of a store is its keys
  get_d_keys : (i : ℕ) → i < mark → get_or (store_of l).keys i 0 ≡ get_or l i 0
  get_d_keys i h = rw (keys_store_of l) (get_or-append l (zeros (limit - length l)) 0 i (omega (arith, r.few)))

  pub claim_by_right : (i j : ℕ) → i ≤ j → j < mark → claim_by (store_of l).keys sums i j ≡ claim_of i j l
  claim_by_right i j h g =
      claim_ext (claim_by (store_of l).keys sums i j) (claim_of i j l) (get_d_keys i (omega arith)) (get_d_keys j g) (sum_at_span i j h g) refl
