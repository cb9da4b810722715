-- How long a reply is, and which place comes after a request's left store, after its node and after its two stores: as src/raw and src/card have them.
-- Assumes nothing.
use Rattle.std.specs.Prelude.{ℕ, ◌+◌, ◌*◌}
use Rattle.keys.specs.Store.{limit}
use Rattle.claims.specs.Words.{claim_width}
use Rattle.rule.specs.Table.{table_limit}

-- the most words of a request
abbrev pub most_words : ℕ
most_words = 16 * limit

-- the bytes of so many words, and of the mark before a reply's
abbrev pub reply_space : ℕ
reply_space = 8 * most_words + 1

-- a count, and a key and a sum for each place
abbrev pub store_words : ℕ
store_words = 1 + 2 * limit

-- the place of the first store
abbrev pub left : ℕ
left = 20

abbrev pub past_left : ℕ
past_left = left + store_words

-- the place after the node: its store, the pending count, the claims
abbrev pub past_node : ℕ
past_node = past_left + 1 + claim_width * table_limit

abbrev pub past_both : ℕ
past_both = past_left + store_words
