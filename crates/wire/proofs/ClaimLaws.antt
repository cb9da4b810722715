-- Laws of a claim in bytes: its length, its fields at a place, its fields written one after the other, and there and back. Assumes nothing.
use Prim.Native.Nat.{ℕ, ◌+◌, ◌*◌, ◌≤◌}
use native.Mathlib.Omega.{arith}
use mathlib.Core.Path.{◌≡◌, sym, ◌∙◌}
use mathlib.Core.List.{List, ◌++◌, append_assoc}
use lib.Dec.{lit≤}
use lib.ListN.{length, take, drop}
use lib.Seq.{drop-drop, take-add}
use Rattle.keys.specs.Place.{put_at}
use Rattle.keys.proofs.PlaceLaws.{put_at_four_blocks}
use Rattle.claims.specs.declared.claim.Claim.{Claim}
use Rattle.wire.specs.Number.{byte, bytes, number_at, Below}
use Rattle.wire.specs.Claim.{key_width, count_width, claim_size, claim_bytes, claim_from, ClaimFits}
use Rattle.wire.specs.Lengths.{length_bytes}
use Rattle.wire.proofs.NumberLaws.{number_at_drop, number_at_skip, number_at_bytes, bytes_number_at, number_at_below}

-- ---- the fields at a place

-- the four fields, each read at its place, are the claim that stands there
pub claim_from_at : (s : List ℕ) (at : ℕ) {lo hi sum cnt : ℕ} → lo ≡ number_at s at key_width → hi ≡ number_at s (at + key_width) key_width
    → sum ≡ number_at s (at + 2 * key_width) key_width
    → cnt ≡ number_at s (at + 3 * key_width) count_width → ◌≡◌ {A = Claim} (record { lo = lo; hi = hi; sum = sum; cnt = cnt }) (claim_from (drop at s))
unfolding claim_from
claim_from_at s at {lo} {hi} {sum} {cnt} p q r t =
    let q' : hi ≡ number_at (drop at s) key_width key_width = q ∙ sym (number_at_drop s at key_width key_width) in
    let r' : sum ≡ number_at (drop at s) (2 * key_width) key_width = r ∙ sym (number_at_drop s at (2 * key_width) key_width) in
    let t' : cnt ≡ number_at (drop at s) (3 * key_width) count_width = t ∙ sym (number_at_drop s at (3 * key_width) count_width) in
    λ i. record { lo = p i; hi = q' i; sum = r' i; cnt = t' i }

-- the four fields, each written at its place, are the claim's bytes
pub put_at_claim_bytes : (s : List ℕ) (at : ℕ) (c : Claim) {o₁ o₂ o₃ o₄ : List ℕ} → at + claim_size ≤ length s
    → o₁ ≡ put_at s at (bytes key_width c.lo)
    → o₂ ≡ put_at o₁ (at + key_width) (bytes key_width c.hi)
    → o₃ ≡ put_at o₂ (at + 2 * key_width) (bytes key_width c.sum)
    → o₄ ≡ put_at o₃ (at + 3 * key_width) (bytes count_width c.cnt)
    → o₄ ≡ put_at s at (claim_bytes c)
unfolding claim_bytes
put_at_claim_bytes s at c h e₁ e₂ e₃ e₄ =
    let l = length_bytes in
    put_at_four_blocks s at (at + key_width) (at + 2 * key_width) (at + 3 * key_width) _ _ _ _
    (omega (arith, l key_width c.lo)) (omega (arith, l key_width c.hi)) (omega (arith, l key_width c.sum)) (omega arith) e₁ e₂ e₃ e₄

-- ---- there and back

-- what is written is read again, whatever follows it
pub claim_from_claim_bytes : (c : Claim) → ClaimFits c → (rest : List ℕ) → claim_from (claim_bytes c ++ rest) ≡ c
unfolding claim_from claim_bytes
claim_from_claim_bytes c f rest =
    let lo = bytes key_width c.lo in
    let hi = bytes key_width c.hi in
    let sum = bytes key_width c.sum in
    let cnt = bytes count_width c.cnt in
    let tail = hi ++ (sum ++ (cnt ++ rest)) in
    let e : (lo ++ (hi ++ (sum ++ cnt))) ++ rest ≡ lo ++ tail = simp append_assoc in
    let skip : (k w : ℕ) → number_at ((lo ++ (hi ++ (sum ++ cnt))) ++ rest) (key_width + k) w ≡ number_at tail k w =
    λ k w. rw e (number_at_skip lo tail key_width k w (length_bytes key_width c.lo)) in
    let skip₂ : (k w : ℕ) → number_at tail (key_width + k) w ≡ number_at (sum ++ (cnt ++ rest)) k w =
    λ k w. number_at_skip hi (sum ++ (cnt ++ rest)) key_width k w (length_bytes key_width c.hi) in
    let skip₃ : number_at (sum ++ (cnt ++ rest)) key_width count_width ≡ number_at (cnt ++ rest) 0 count_width =
    number_at_skip sum (cnt ++ rest) key_width 0 count_width (length_bytes key_width c.sum) in
    let p : number_at ((lo ++ (hi ++ (sum ++ cnt))) ++ rest) 0 key_width ≡ c.lo = rw e (number_at_bytes key_width c.lo tail f.lo) in
    let q = skip 0 key_width ∙ number_at_bytes key_width c.hi (sum ++ (cnt ++ rest)) f.hi in
    let r = skip key_width key_width ∙ (skip₂ 0 key_width ∙ number_at_bytes key_width c.sum (cnt ++ rest) f.sum) in
    let t = skip (2 * key_width) count_width ∙ (skip₂ key_width count_width ∙ (skip₃ ∙ number_at_bytes count_width c.cnt rest f.cnt)) in
    λ i. record { lo = p i; hi = q i; sum = r i; cnt = t i }

-- what is read is written again
pub claim_bytes_claim_from : (bs : List ℕ) → Below byte bs → claim_size ≤ length bs → claim_bytes (claim_from bs) ≡ take claim_size bs
unfolding claim_from claim_bytes
claim_bytes_claim_from bs h p =
    rw (
      bytes_number_at bs 0 key_width h (omega arith),
      bytes_number_at bs key_width key_width h (omega arith),
      bytes_number_at bs (2 * key_width) key_width h (omega arith),
      bytes_number_at bs (3 * key_width) count_width h (omega arith),
      take-add key_width (2 * key_width + count_width) bs,
      take-add key_width (key_width + count_width) (drop key_width bs),
      take-add key_width count_width (drop key_width (drop key_width bs)),
      drop-drop key_width key_width bs,
      drop-drop key_width (2 * key_width) bs,
    )

-- a claim that was read fits
pub claim_from_fits : (bs : List ℕ) → Below byte bs → ClaimFits (claim_from bs)
unfolding claim_from
claim_from_fits bs h =
    record {
      lo = number_at_below bs 0 key_width key_width (lit≤ tt) h;
      hi = number_at_below bs key_width key_width key_width (lit≤ tt) h;
      sum = number_at_below bs (2 * key_width) key_width key_width (lit≤ tt) h;
      cnt = number_at_below bs (3 * key_width) count_width count_width (lit≤ tt) h;
    }
