-- A claim in a lent run of words, one word to a field: how the crates above hand claims on in flat runs. An interface between our own crates; document 01
-- leaves open how a claim is lent. In order: its width; the words of a claim and the claim of words; a claim read and written at a place. Assumes nothing.
use Rattle.std.specs.Prelude.{ℕ, ◌+◌, ◌%◌, cond, List, [], ◌∷◌, leb, length, drop, get_or}
use Rattle.keys.specs.Place.{put_at}
use Rattle.claims.specs.declared.claim.Claim.{Claim}
use Rattle.claims.specs.Claim.{no_claim}

-- the words of a claim, which code knows as `Claim::WORDS`
abbrev pub claim_width : ℕ
claim_width = 4

abbrev pub words_of : Claim → List ℕ
words_of c = c.lo ∷ c.hi ∷ c.sum ∷ c.cnt ∷ []

-- the claim that some words begin with
abbrev pub from_words : List ℕ → Claim
from_words ws = record { lo = get_or ws 0 0; hi = get_or ws 1 0; sum = get_or ws 2 0; cnt = get_or ws 3 0 }

-- a claim whose count is taken from the low 16 bits of a word: any content may be lent, and a count has no more
abbrev pub low_count : Claim → Claim
low_count c = record { lo = c.lo; hi = c.hi; sum = c.sum; cnt = c.cnt % 65536 }

-- `claim_at`: the claim of the words from the place `at` on, and zeros where there are too few
unfoldable pub claim_at : List ℕ → ℕ → Claim
claim_at words at = cond (leb (at + claim_width) (length words)) (low_count (from_words (drop at words))) no_claim

-- `put_claim`: a claim written from the place `at` on, and nothing where there are too few words
unfoldable pub put_claim : List ℕ → ℕ → Claim → List ℕ
put_claim words at c = cond (leb (at + claim_width) (length words)) (put_at words at (words_of c)) words
