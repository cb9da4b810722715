-- Numbers in bytes (document 01, the opening paragraph): "numbers in bytes are unsigned, high byte first", over the width.
-- Not here: where a number stands in a claim, a frame or an image (Claim, Frame, Image). Assumes nothing.
use Rattle.std.specs.Prelude.{ℕ, zero, suc, ◌+◌, ◌*◌, ◌/◌, ◌%◌, ◌^◌, ◌<◌, List, [], ◌∷◌, length, take, drop, get_or}

-- how many values a byte has
abbrev pub byte : ℕ
byte = 256

-- the number that some bytes are
unfoldable pub number : List ℕ → ℕ
number [] = 0
number (b ∷ bs) = b * byte ^ length bs + number bs

-- the bytes of a number, as many as the width says
unfoldable pub bytes : ℕ → ℕ → List ℕ
bytes zero n = []
bytes (suc w) n = n / byte ^ w % byte ∷ bytes w n

-- the number of a width that stands at a place of some bytes
abbrev pub number_at : List ℕ → ℕ → ℕ → ℕ
number_at bs at width = number (take width (drop at bs))

-- every number of a list is below m, as every byte of a slice is below 256
abbrev pub Below : ℕ → List ℕ → Type 0
Below m l = (i : ℕ) → get_or l i 0 < m
