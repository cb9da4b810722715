-- What the calls on nodes and stores return, as document 01 writes it: "A refusal returns its number, the given store or node, and zeros for any claim or
-- count"; the number is 0 where nothing is refused. A call of the code lends its store or node, writes nothing where it refuses, and answers a `Result`: by a
-- view, the record that this and the lent place are. Assumes nothing.
use Rattle.std.specs.Prelude.{ℕ, List, Result}
use Rattle.keys.specs.declared.store.Store.{Store}
use Rattle.claims.specs.declared.claim.Claim.{Claim}
use Rattle.claims.specs.declared.refusal.Refusal.{Refusal}
use Rattle.claims.specs.Refusal.{number_told, value_told}
use Rattle.rule.specs.declared.node.Node.{Node}
use Rattle.rule.specs.declared.answer.Rest.{Rest as Beside}

-- ---- a claim taken, a node joined

pub record Taken : Type 0 where
  pub number : ℕ
  pub node : Node

abbrev pub taken_by : {A : Type 0} → Node → Result A Refusal → Taken
taken_by n r = record { number = number_told r; node = n }

-- ---- a node but for its keys: how many are held, the table's places, and how many of them are used

pub record Rest : Type 0 where
  pub number : ℕ
  pub held : ℕ
  pub table : List Claim
  pub count : ℕ

-- one that is given, with this number
abbrev pub rest_numbered : ℕ → Beside → Rest
rest_numbered number r = record { number = number; held = r.held; table = r.pending.claims; count = r.pending.count }

abbrev pub rest_given : Beside → Rest
rest_given r = rest_numbered 0 r

-- what comes of one that is given, which stands where it is refused
abbrev pub rest_by : Beside → Result Beside Refusal → Rest
rest_by given r = rest_numbered (number_told r) (value_told given r)

-- ---- a beat, and how many claims were written

pub record Beaten : Type 0 where
  pub number : ℕ
  pub node : Node
  pub written : ℕ

abbrev pub beaten_by : Node → Result ℕ Refusal → Beaten
beaten_by n r = record { number = number_told r; node = n; written = value_told 0 r }

-- ---- a round, and how many deliveries were made

pub record Met : Type 0 where
  pub number : ℕ
  pub left : Store
  pub right : Store
  pub deliveries : ℕ

abbrev pub met_by : Store → Store → Result ℕ Refusal → Met
met_by left right r = record { number = number_told r; left = left; right = right; deliveries = value_told 0 r }
