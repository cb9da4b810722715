-- Claims (document 01, the section of that name; the paper, 3.1): what the claim for positions i to j of a store is, and the key that one of three tells.
-- Not here: which claims are refused (Question), how one is replied to (Reply). Assumes nothing.
use Rattle.std.specs.Prelude.{ℕ, ◌+◌, ◌-◌, Bool, cond, ◌&&◌, List, [], ◌∷◌, ltb, leb, length, take, drop, get_or}
use Rattle.std.specs.Int.Bits.{bit_xor}
use Rattle.claims.specs.declared.claim.Claim.{Claim}

-- the keys at positions i to j, "with both ends"
abbrev pub span : ℕ → ℕ → List ℕ → List ℕ
span i j l = take (j - i + 1) (drop i l)

-- the XOR of all numbers of a list
abbrev pub xor_all : List ℕ → ℕ
xor_all [] = 0
xor_all (k ∷ ks) = bit_xor k (xor_all ks)

-- "The claim for positions i to j of a store is: key i, key j, the XOR of all keys i to j with both ends, and j − i + 1."
-- For one key the sum is that key, as the paper's algorithm has it, and not 0, as its text has it. Of the running sums that a store has beside its keys:
-- "Claims, replies and lists of events give what they gave before." (document 02, slip 7)
abbrev pub claim_of : ℕ → ℕ → List ℕ → Claim
claim_of i j l = record { lo = get_or l i 0; hi = get_or l j 0; sum = xor_all (span i j l); cnt = j - i + 1 }

-- the claim of zeros, which stands for a claim where a call is refused
abbrev pub no_claim : Claim
no_claim = record { lo = 0; hi = 0; sum = 0; cnt = 0 }

-- "whole claim (position 0 to the last; none if empty)": as a list, of one claim or none
abbrev pub whole_claim : List ℕ → List Claim
whole_claim [] = []
whole_claim (k ∷ ks) = claim_of 0 (length ks) (k ∷ ks) ∷ []

-- the keys from lo to hi, ends included
abbrev pub between : ℕ → ℕ → List ℕ → List ℕ
between lo hi [] = []
between lo hi (k ∷ ks) = cond (leb lo k && leb k hi) (k ∷ between lo hi ks) (between lo hi ks)

-- the key that a claim of three tells beside lo and hi: "the key sum XOR lo XOR hi" (document 02, slip 1)
abbrev pub middle_key : Claim → ℕ
middle_key c = bit_xor (bit_xor c.sum c.lo) c.hi

-- "it lies strictly between lo and hi" (document 02, slip 1)
abbrev pub middle_inside : Claim → Bool
middle_inside c = ltb c.lo (middle_key c) && ltb (middle_key c) c.hi
