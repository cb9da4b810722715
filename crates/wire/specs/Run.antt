-- Things of one kind in bytes, one after the other: keys, claims. Assumes nothing.
use Rattle.std.specs.Prelude.{ℕ, zero, suc, List, [], ◌∷◌, ◌++◌, drop}
use Rattle.claims.specs.declared.claim.Claim.{Claim}
use Rattle.wire.specs.Number.{bytes, number_at}
use Rattle.wire.specs.Claim.{key_width, claim_size, claim_bytes, claim_from}

-- how a thing lies in bytes: how many they are, the thing that some bytes begin with, and the bytes of a thing
pub record Layout (A : Type 0) : Type 0 where
  pub size : ℕ
  pub read : List ℕ → A
  pub write : A → List ℕ

abbrev pub key : Layout ℕ
key = record { size = key_width; read = λ bs. number_at bs 0 key_width; write = bytes key_width }

abbrev pub claim : Layout Claim
claim = record { size = claim_size; read = claim_from; write = claim_bytes }

-- n things, read one after the other
abbrev pub read_run : {A : Type 0} → Layout A → ℕ → List ℕ → List A
read_run l zero bs = []
read_run l (suc n) bs = l.read bs ∷ read_run l n (drop l.size bs)

-- things written one after the other
abbrev pub write_run : {A : Type 0} → Layout A → List A → List ℕ
write_run l [] = []
write_run l (x ∷ xs) = l.write x ++ write_run l xs

-- each thing of a list is as P says
abbrev pub Each : {A : Type 0} → (A → Type 0) → List A → Type 0
Each P [] = Unit
Each P (x ∷ xs) = P x × Each P xs
