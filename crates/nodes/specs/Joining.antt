-- Two nodes joined whose keys are lent: a call between our own crates, total, and no rule of document 01 or 02. Where both nodes are in order and the run is zeros
-- it is `joined_node` of `rule` (`join_in_node` of proofs/JoiningLaws). Assumes nothing.
use Rattle.std.specs.Prelude.{ℕ, ◌+◌, cond, List, ◌≡◌, ltb, leb, length, take}
use Rattle.keys.specs.Store.{limit}
use Rattle.keys.specs.Place.{put_at}
use Rattle.claims.specs.declared.claim.Claim.{Claim}
use Rattle.rule.specs.declared.node.Node.{Node}
use Rattle.rule.specs.Answer.{Rest, Taken}
use Rattle.rule.specs.Table.{table_limit, before}
use Rattle.rule.specs.Node.{blanks, node_keys, pending_of}
use Rattle.merging.specs.Merge.{merged, merged_in}
use Rattle.nodes.specs.Lent.{taken_beside}

-- the claims of two tables, merged, as many as a table has places
unfoldable pub tables_in : List Claim → List Claim → List Claim
tables_in s t = take table_limit (merged before s t)

-- `new` and `count` are a table and its count once these claims stand behind its first `at`
pub record CopiedBehind (table : List Claim) (at : ℕ) (claims new : List Claim) (count : ℕ) : Type 0 where
  pub places : new ≡ put_at table at claims
  pub many : count ≡ at + length claims

-- a node beside its keys, refused
abbrev pub rest_refused : ℕ → Node → Rest
rest_refused number n = record { number = number; held = n.store.count; table = n.pending.claims; count = n.pending.count }

-- .. and of so many keys and these claims
abbrev pub rest_with : ℕ → List Claim → Rest
rest_with held t = record { number = 0; held = held; table = put_at (blanks table_limit) 0 t; count = length t }

-- `join_in`: the keys of two nodes are merged into a run, and so are their claims; where the keys are too many, 8, and the run is as it was
unfoldable pub join_in : Node → Node → List ℕ → Taken
join_in n m into =
    taken_beside (merged_in (node_keys n) (node_keys m) into)
    (cond (leb (length (merged ltb (node_keys n) (node_keys m))) limit)
    (rest_with (length (merged ltb (node_keys n) (node_keys m))) (tables_in (pending_of n) (pending_of m)))
    (rest_refused 8 n))
