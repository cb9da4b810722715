-- A claim in bytes (document 01, "Frame and image"): "claims of 26 bytes (lo 8, hi 8, sum 8, cnt 2)".
-- Not here: claims one after the other (Run). Assumes nothing.
use Rattle.std.specs.Prelude.{ℕ, ◌+◌, ◌*◌, ◌^◌, ◌<◌, List, ◌++◌}
use Rattle.claims.specs.declared.claim.Claim.{Claim}
use Rattle.wire.specs.Number.{byte, bytes, number_at}

-- the width of a key or a sum, and that of a count, in bytes
abbrev pub key_width : ℕ
key_width = 8

abbrev pub count_width : ℕ
count_width = 2

-- 26
abbrev pub claim_size : ℕ
claim_size = 3 * key_width + count_width

-- the bytes of a claim
unfoldable pub claim_bytes : Claim → List ℕ
claim_bytes c = bytes key_width c.lo ++ (bytes key_width c.hi ++ (bytes key_width c.sum ++ bytes count_width c.cnt))

-- the claim that some bytes begin with
unfoldable pub claim_from : List ℕ → Claim
claim_from bs =
    record {
      lo = number_at bs 0 key_width;
      hi = number_at bs key_width key_width;
      sum = number_at bs (2 * key_width) key_width;
      cnt = number_at bs (3 * key_width) count_width;
    }

-- a claim whose fields fit their widths, as those of every claim in the code do
pub record ClaimFits (c : Claim) : Type 0 where
  pub lo : c.lo < byte ^ key_width
  pub hi : c.hi < byte ^ key_width
  pub sum : c.sum < byte ^ key_width
  pub cnt : c.cnt < byte ^ count_width
