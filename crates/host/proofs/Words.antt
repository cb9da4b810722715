-- Claims in a lent run of words: the layout is that of `claim_words`, so what a beat wrote is read again; parts of what is read.
-- Assumes nothing.
use Prim.Native.Nat.{ℕ, zero, suc, ◌+◌, ◌*◌, ◌≤◌, ◌<◌}
use native.Mathlib.Nat.{mul-suc, mul-zero}
use native.Mathlib.Omega.{arith}
use mathlib.Core.List.{List, [], ◌∷◌, ◌++◌}
use mathlib.Core.Path.{◌≡◌, refl, ap, ◌∙◌}
use lib.ListN.{length, take, drop, get_or}
use lib.Seq.{drop-drop}
use Rattle.claims.specs.declared.claim.Claim.{Claim}
use Rattle.claims.specs.Words.{claim_width, words_of}
use Rattle.claims.proofs.WordsLaws.{words_of_from_words}
use Rattle.rule.specs.Call.{claim_words}
use Rattle.wire.specs.Run.{Layout, read_run, write_run, Each}
use Rattle.wire.proofs.RunLaws.{Faithful, read_run_write_run}
use Rattle.host.specs.Frames.{in_words}

-- ---- what is written is read

abbrev Any : Claim → Type 0
Any c = Unit

in_words_faithful : Faithful in_words Any
in_words_faithful = record { long = λ c. refl; back = λ c f rest. refl; again = λ ws h p. words_of_from_words ws p; fits = λ ws h. tt }

each_any : (cs : List Claim) → Each Any cs
each_any [] = tt
each_any (c ∷ cs) = (tt, each_any cs)

claim_words_write_run : (cs : List Claim) → claim_words cs ≡ write_run in_words cs
claim_words_write_run [] = refl
claim_words_write_run (c ∷ cs) = ap (λ (ws : List ℕ). words_of c ++ ws) (claim_words_write_run cs)

pub read_run_claim_words : (cs : List Claim) (rest : List ℕ) → read_run in_words (length cs) (claim_words cs ++ rest) ≡ cs
read_run_claim_words cs rest = rw (claim_words_write_run cs) (read_run_write_run in_words_faithful cs (each_any cs) rest)

-- ---- parts of what is read

module _ {A : Type 0} (l : Layout A) where
  size_on : (m : ℕ) (bs : List ℕ) → drop (l.size * m) (drop l.size bs) ≡ drop (l.size * suc m) bs
  size_on m bs = let e : l.size + l.size * m ≡ l.size * suc m = rw mul-suc (omega arith) in rw (drop-drop, e)

  pub get_d_read_run : (n i : ℕ) (bs : List ℕ) (d : A) → i < n → get_or (read_run l n bs) i d ≡ l.read (drop (l.size * i) bs)
  get_d_read_run zero i bs d h = absurd (omega arith)
  get_d_read_run (suc n) zero bs d h = rw mul-zero
  get_d_read_run (suc n) (suc i) bs d h = get_d_read_run n i (drop l.size bs) d (omega arith) ∙ ap l.read (size_on i bs)

  pub take_read_run : (m n : ℕ) (bs : List ℕ) → n ≤ m → take n (read_run l m bs) ≡ read_run l n bs
  take_read_run zero zero bs h = refl
  take_read_run (suc m) zero bs h = refl
  take_read_run zero (suc n) bs h = absurd (omega arith)
  take_read_run (suc m) (suc n) bs h = ap (λ (xs : List A). l.read bs ∷ xs) (take_read_run m n (drop l.size bs) (omega arith))

  pub read_run_part : (m i n : ℕ) (bs : List ℕ) → i + n ≤ m → take n (drop i (read_run l m bs)) ≡ read_run l n (drop (l.size * i) bs)
  read_run_part m zero n bs h = rw mul-zero (take_read_run m n bs (omega arith))
  read_run_part zero (suc i) n bs h = absurd (omega arith)
  read_run_part (suc m) (suc i) n bs h = read_run_part m i n (drop l.size bs) (omega arith) ∙ ap (λ (ws : List ℕ). read_run l n ws) (size_on i bs)

-- the claims of words that others follow
pub read_run_front : (n : ℕ) (ws rest : List ℕ) → length ws ≡ claim_width * n → read_run in_words n (ws ++ rest) ≡ read_run in_words n ws
read_run_front zero ws rest h = refl
read_run_front (suc n) [] rest h = absurd (omega arith)
read_run_front (suc n) (a ∷ []) rest h = absurd (omega arith)
read_run_front (suc n) (a ∷ b ∷ []) rest h = absurd (omega arith)
read_run_front (suc n) (a ∷ b ∷ c ∷ []) rest h = absurd (omega arith)
read_run_front (suc n) (a ∷ b ∷ c ∷ d ∷ ws) rest h =
    ap (λ (cs : List Claim). record { lo = a; hi = b; sum = c; cnt = d } ∷ cs) (read_run_front n ws rest (omega arith))
