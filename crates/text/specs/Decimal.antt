-- Numbers as text: "Written numbers have base ten" (document 01, the opening paragraph), in ASCII. The number zero is one digit; no other begins
-- with 0. Not here: lines (Line). Assumes nothing.
use Rattle.std.specs.Prelude.{ℕ, zero, suc, ◌+◌, ◌-◌, ◌*◌, ◌/◌, ◌%◌, ◌^◌, cond, List, [], ◌∷◌, ◌++◌, ltb, length}

-- the character of a digit: `0` is 48
abbrev pub digit : ℕ → ℕ
digit d = 48 + d

-- a number below ten is its digit, any other the text of its tenth and then its last digit; so often over
unfoldable pub decimal_in : ℕ → ℕ → List ℕ
decimal_in zero n = digit n ∷ []
decimal_in (suc turns) n = cond (ltb n 10) (digit n ∷ []) (decimal_in turns (n / 10) ++ (digit (n % 10) ∷ []))

-- the text of a number: a number has fewer digits than its value has units, so this cuts nothing off (`decimal_step` of proofs/DecimalLaws)
unfoldable pub decimal : ℕ → List ℕ
decimal n = decimal_in n n

-- the digits that a 64-bit number has at most
abbrev pub digit_limit : ℕ
digit_limit = 20

-- the number that some digits are: what `decimal` is undone by (`value_decimal`)
unfoldable pub value : List ℕ → ℕ
value [] = 0
value (d ∷ ds) = (d - 48) * 10 ^ length ds + value ds
