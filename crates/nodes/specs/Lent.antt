-- Calls between our own crates, on a node whose keys are lent, so that none is copied: what was read of an image is judged and admitted, and a claim is taken
-- into a node that was judged before, so that a frame of claims pays question 1 once. They are total, and no rule of document 01. A number other than 0 means
-- that the node is what it was (`take_in_kept` of proofs/LentLaws). What they mean where the node is in order is said by laws (proofs/LentLaws), by the
-- definitions of Table, Node and Call. Assumes nothing.
use Rattle.std.specs.Prelude.{◌≡◌, Result, ℕ, zero, suc, ◌+◌, ◌-◌, ◌/◌, Bool, cond, not, ◌&&◌, List, ◌∷◌, ◌++◌, ltb, leb, eqb, length, take, drop, get_or}
use Rattle.keys.specs.Lent.{store_with, store_by}
use Rattle.keys.specs.Place.{put_at}
use Rattle.claims.specs.declared.claim.Claim.{Claim}
use Rattle.claims.specs.declared.refusal.Refusal.{Refusal}
use Rattle.claims.specs.Refusal.{number_told, value_told}
use Rattle.claims.specs.Claim.{no_claim}
use Rattle.claims.specs.Question.{settle}
use Rattle.claims.specs.Lent.{hear_in}
use Rattle.rule.specs.declared.node.Node.{Node}
use Rattle.rule.specs.declared.node.Table.{Table}
use Rattle.rule.specs.Answer.{Rest, Taken}
use Rattle.rule.specs.Table.{table_limit, before, climbs}
use Rattle.rule.specs.Node.{blanks, table_by, pending_of, node_of, all_fit, telling, saved_in_order}
use Rattle.nodes.specs.declared.order.Order.{Order}
use Rattle.nodes.specs.declared.order.Order.TheVariants.{Out, Saved, Given}

-- the node of these parts: a run of keys and how many are held, and a table; no sums, where none is read
abbrev pub node_with : List ℕ → ℕ → Table → Node
node_with keys held pending = record { store = store_with keys held; pending = pending }

-- .. and with sums
abbrev pub node_by : List ℕ → List ℕ → ℕ → Table → Node
node_by keys sums held pending = record { store = store_by keys sums held; pending = pending }

-- .. and by a run of keys and what stands beside it
abbrev pub node_held : List ℕ → Rest → Node
node_held keys r = node_with keys r.held (table_by r.table r.count)

-- a node beside its keys
abbrev pub rest_of : Node → Rest
rest_of n = record { number = 0; held = n.store.count; table = n.pending.claims; count = n.pending.count }

-- do the claims t rise strictly, and does each pass questions 2 to 5 and have lo and hi among the keys l?
abbrev pub pending : List Claim → List ℕ → Bool
pending t l = climbs t && all_fit t l

-- in order, as in an image if `saved`, and as given if each claim passes 16 too
abbrev pub order_of : Bool → Bool → Order
order_of saved told = cond saved (cond told Given Saved) Out

-- is the node of these keys and of the first `count` claims of a table in order, as one in an image?
abbrev pub front_in : List ℕ → List Claim → ℕ → Bool
front_in keys table count = leb count table_limit && saved_in_order (node_of keys (take count table))

-- the places of a table once the claims that fail 16 are left out of the first `count`: the others, then zeros; what stands past them is as it was
abbrev pub left_out : List Claim → ℕ → List Claim
left_out table count = put_at table 0 (telling (take count table) ++ blanks (count - length (telling (take count table))))

-- the table then
abbrev pub table_left : List Claim → ℕ → Table
table_left table count = table_by (left_out table count) (length (telling (take count table)))

-- what is admitted: so many keys, and the claims that are left
abbrev pub rest_left : ℕ → List Claim → ℕ → Rest
rest_left held table count = record { number = 0; held = held; table = left_out table count; count = length (telling (take count table)) }

-- `admit_in`: what was read of an image is judged, and what fails 16 is left out; what was refused stays so
unfoldable pub admit_in : List ℕ → Rest → Rest
admit_in keys r =
    settle r.number
    (cond (front_in keys r.table r.count)
    (rest_left r.held r.table r.count)
    (record { number = 1; held = r.held; table = r.table; count = r.count }))
    (λ n. r)

-- Halving: of the `size` claims from `base` on, the half in which the first one stands that does not come before c; n times over.
abbrev pub halved_to : ℕ → List Claim → Claim → ℕ → ℕ → ℕ
halved_to zero t c base size = base
halved_to (suc n) t c base size =
    cond (eqb size 0) base
    (cond (before (get_or t (base + size / 2) no_claim) c)
    (halved_to n t c (base + size / 2 + 1) (size - (size / 2 + 1)))
    (halved_to n t c base (size / 2)))

-- the place of a claim among the claims t
unfoldable pub place_among : Claim → List Claim → ℕ
place_among c t = halved_to (length t) t c 0 (length t)

-- Is c the claim at place p among the claims t? If it does not come before that one; where p is the place of c, that one does not come before c.
abbrev pub is_at : ℕ → Claim → List Claim → Bool
is_at p c t = ltb p (length t) && not (before c (get_or t p no_claim))

-- the claims with c put in at place p
abbrev pub placed_at : ℕ → Claim → List Claim → List Claim
placed_at p c t = take p t ++ (c ∷ drop p t)

-- the claims t with c put in at its place, unless it is there; of 65 the last is dropped
abbrev pub placed_in : ℕ → Claim → List Claim → List Claim
placed_in p c t = cond (is_at p c t) t (take table_limit (placed_at p c t))

unfoldable pub table_in : Claim → List Claim → List Claim
table_in c t = placed_in (place_among c t) c t

-- `new` and `count` are a table and its count once it has the claims t in place of those that were pending
pub record Enlisted (table t new : List Claim) (count : ℕ) : Type 0 where
  pub places : new ≡ put_at table 0 t
  pub many : count ≡ length t

-- what is taken, by the run of keys as it is then and what stands beside it
abbrev pub taken_beside : List ℕ → Rest → Taken
taken_beside keys r = record { number = r.number; node = node_held keys r }

-- .. and by how many keys were held, keys and table as they are then, and what the call returns: how many keys are held then
abbrev pub taken_with : List ℕ → ℕ → Table → Result ℕ Refusal → Taken
taken_with keys held pending r = record { number = number_told r; node = node_with keys (value_told held r) pending }

-- `take_in`: a claim is heard, and put into the table
unfoldable pub take_in : Node → Claim → Taken
take_in n c =
    settle (hear_in n.store c).number
    (record {
      number = 0;
      node = record {
        store = (hear_in n.store c).store;
        pending = table_by (put_at n.pending.claims 0 (table_in c (pending_of n))) (length (table_in c (pending_of n)));
      };
    })
    (λ x. record { number = x; node = n })
