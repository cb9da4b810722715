-- How many bytes a number and a claim take, which the code's trait `Laid` asks of each layout. Assumes nothing.
use Rattle.std.specs.Prelude.{ℕ, zero, suc, ◌+◌, List, ◌++◌, ◌≡◌, refl, length}
use mathlib.Core.Path.{ap, ◌∙◌}
use lib.ListN.{length-append}
use Rattle.claims.specs.declared.claim.Claim.{Claim}
use Rattle.wire.specs.Number.{bytes}
use Rattle.wire.specs.Claim.{key_width, count_width, claim_size, claim_bytes}

pub length_bytes : (w n : ℕ) → length (bytes w n) ≡ w
unfolding bytes
length_bytes zero n = refl
length_bytes (suc w) n = ap suc (length_bytes w n)

joined : (xs ys : List ℕ) {m n : ℕ} → length xs ≡ m → length ys ≡ n → length (xs ++ ys) ≡ m + n
joined xs ys p q = length-append xs ys ∙ (λ i. p i + q i)

pub length_claim_bytes : (c : Claim) → length (claim_bytes c) ≡ claim_size
unfolding claim_bytes
length_claim_bytes c =
    let lo = length_bytes key_width c.lo in
    let hi = length_bytes key_width c.hi in
    let sum = length_bytes key_width c.sum in
    let cnt = length_bytes count_width c.cnt in
    joined _ _ lo (joined _ _ hi (joined _ _ sum cnt))
