-- Nodes (document 01, "Pending table and beat"): the pending claims of a node, the node of some keys and claims, the empty node; in order, as an image is
-- judged and as a node is (document 02, slip 2).
-- Not here: what the calls return (Call). Assumes nothing.
use Rattle.std.specs.Prelude.{ℕ, ◌-◌, Bool, true, ◌&&◌, List, [], ◌∷◌, ◌++◌, leb, eqb, length, take, drop, replicate}
use Rattle.keys.specs.Store.{keys_of, store_of, empty_store, in_order, holds}
use Rattle.claims.specs.declared.claim.Claim.{Claim}
use Rattle.claims.specs.Claim.{no_claim}
use Rattle.claims.specs.Reply.{ends, same}
use Rattle.claims.specs.Question.{question16}
use Rattle.claims.specs.Call.{judged_formerly}
use Rattle.rule.specs.declared.node.Node.{Node}
use Rattle.rule.specs.declared.node.Table.{Table}
use Rattle.rule.specs.Table.{table_limit, climbs, those}

-- n unused places of a table: "unused places are zeros"
unfoldable pub blanks : ℕ → List Claim
blanks n = replicate n no_claim

-- the table of these places, so many of which are used
abbrev pub table_by : List Claim → ℕ → Table
table_by claims count = record { claims = claims; count = count }

-- the pending claims of a node: its places below the count
abbrev pub pending_of : Node → List Claim
pending_of n = take n.pending.count n.pending.claims

-- the keys of a node's store
abbrev pub node_keys : Node → List ℕ
node_keys n = keys_of n.store

-- the node of some keys and some pending claims: these, then zeros to the limits
unfoldable pub node_of : List ℕ → List Claim → Node
node_of l t = record { store = store_of l; pending = table_by (t ++ blanks (table_limit - length t)) (length t) }

-- "a node with the empty store and nothing pending"
unfoldable pub empty_node : Node
empty_node = record { store = empty_store; pending = table_by (blanks table_limit) 0 }

-- are all of the keys ks among the keys l?
abbrev pub holds_all : List ℕ → List ℕ → Bool
holds_all [] l = true
holds_all (k ∷ ks) l = holds k l && holds_all ks l

-- "each passes questions 2 to 5 and has lo and hi in the store", whose keys are l
abbrev pub all_fit : List Claim → List ℕ → Bool
all_fit [] l = true
all_fit (c ∷ cs) l = eqb (judged_formerly c) 0 && (holds_all (ends c) l && all_fit cs l)

-- does each pass question 16?
abbrev pub all_tell : List Claim → Bool
all_tell [] = true
all_tell (c ∷ cs) = (question16 c).yes && all_tell cs

-- those that do: of an image already saved one that does not "is left out" (document 02, slip 2)
abbrev pub telling : List Claim → List Claim
telling t = those (λ (c : Claim). (question16 c).yes) t

-- "unused places are zeros"
abbrev pub all_unused : List Claim → Bool
all_unused [] = true
all_unused (c ∷ cs) = same c no_claim && all_unused cs

-- "A node is a store and up to 64 pending claims, strictly rising by cnt, then lo, hi, sum; each passes questions 2 to 5 and has lo and hi in the
-- store; unused places are zeros. It is in order when its store is and all this holds." So an image already saved passes "1 as before" (document 02, slip 2).
unfoldable pub saved_in_order : Node → Bool
saved_in_order n =
    in_order n.store
    && (leb n.pending.count table_limit
    && (climbs (pending_of n)
    && (all_fit (pending_of n) (node_keys n)
    && all_unused (drop n.pending.count n.pending.claims))))

-- A node is in order when each pending claim passes 16 as well: "a node given with one gets 1" (document 02, slip 2).
unfoldable pub node_in_order : Node → Bool
node_in_order n = saved_in_order n && all_tell (pending_of n)
