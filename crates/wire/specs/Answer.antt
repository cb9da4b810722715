-- What the calls on frames and images return, as document 01 writes it: "A refusal returns its number, the given store or node, and zeros for any claim or
-- count"; the number is 0 where nothing is refused. A call of the code answers a `Result`: by a view, one of these records. Assumes nothing.
use Rattle.std.specs.Prelude.{ℕ, List, Result, Ok, Err}
use Rattle.claims.specs.declared.claim.Claim.{Claim}
use Rattle.claims.specs.declared.refusal.Refusal.{Refusal}
use Rattle.claims.specs.Refusal.{refusal_number, number_told, value_told}
use Rattle.rule.specs.declared.node.Node.{Node}
use Rattle.rule.specs.declared.answer.Rest.{Rest as Beside}
use Rattle.rule.specs.Answer.{Rest, rest_by}
use Rattle.rule.specs.Table.{table_limit}
use Rattle.rule.specs.Node.{blanks, table_by, empty_node}
use Rattle.wire.specs.declared.frames.Frame.{Frame}

-- ---- a frame's claims, zeros past the count; all zeros where it is refused

-- "count byte n from 1 to 4"
abbrev pub frame_limit : ℕ
frame_limit = 4

pub record Framed : Type 0 where
  pub number : ℕ
  pub claims : List Claim
  pub count : ℕ

abbrev pub framed_by : Result Frame Refusal → Framed
framed_by (Ok f) = record { number = 0; claims = f.claims; count = f.count }
framed_by (Err r) = record { number = refusal_number r; claims = blanks frame_limit; count = 0 }

-- ---- how many bytes were written or are told; 0 where the call is refused

pub record Length : Type 0 where
  pub number : ℕ
  pub length : ℕ

abbrev pub length_by : Result ℕ Refusal → Length
length_by r = record { number = number_told r; length = value_told 0 r }

-- ---- the node of an image; the empty node where it is refused

pub record Imaged : Type 0 where
  pub number : ℕ
  pub node : Node

abbrev pub imaged_by : Result Node Refusal → Imaged
imaged_by r = record { number = number_told r; node = value_told empty_node r }

-- .. and what stands beside its keys, where these are lent; nothing where it is refused
abbrev pub nothing_beside : Beside
nothing_beside = record { held = 0; pending = table_by (blanks table_limit) 0 }

abbrev pub read_by : Result Beside Refusal → Rest
read_by r = rest_by nothing_beside r
