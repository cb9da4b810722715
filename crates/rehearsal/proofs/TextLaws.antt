-- Laws of what is printed: the lines of deliveries are those of the records in words. Assumes nothing.
use Prim.Native.Nat.{ℕ, zero, suc, ◌+◌, ◌*◌, ◌<◌}
use native.Mathlib.Nat.{add_assoc}
use native.Mathlib.Omega.{arith}
use mathlib.Core.List.{List, [], ◌∷◌, ◌++◌, append_assoc, append-nil}
use mathlib.Core.Path.{◌≡◌, refl, ap, ap₂, sym, ◌∙◌}
use lib.Dec.{lit<}
use lib.ListN.{length, drop, take, get_or}
use lib.Seq.{get_or-drop}
use Rattle.std.specs.Simd.{first_chunks}
use Rattle.std.proofs.lemmas.List.{get_or-take}
use Rattle.rule.specs.declared.delivery.Delivery.{Delivery}
use Rattle.rule.specs.Call.{delivery_words, record_width, record_words}
use Rattle.rehearsal.specs.Text.{line, lines, four_at, row_at, rows}

row_at_drop : (k : ℕ) (words : List ℕ) (at : ℕ) → row_at (drop k words) at ≡ row_at words (k + at)
unfolding row_at four_at
row_at_drop k words at = simp (get_or-drop, add_assoc)

row_at_take : (words : List ℕ) → row_at (take record_width words) 0 ≡ row_at words 0
unfolding row_at four_at
row_at_take words =
    let kept = get_or-take record_width words in
    simp (kept 0 0 (lit< tt), kept 1 0 (lit< tt), kept 2 0 (lit< tt), kept 3 0 (lit< tt), kept 4 0 (lit< tt))

-- the line of a record that was cut out of some words
pub row_at_chunk : (n i : ℕ) (words d : List ℕ) → i < n → row_at (get_or (first_chunks record_width n words) i d) 0 ≡ row_at words (i * record_width)
row_at_chunk zero i words d h = absurd (omega arith)
row_at_chunk (suc n) zero words d h = row_at_take words
row_at_chunk (suc n) (suc i) words d h =
    let e : record_width + i * record_width ≡ suc i * record_width = omega arith in
    row_at_chunk n i (drop record_width words) d (omega arith) ∙ (row_at_drop record_width words (i * record_width) ∙ ap (row_at words) e)

rows_cons : (n : ℕ) (words : List ℕ) → rows (suc n) words ≡ row_at words 0 ++ rows n (drop record_width words)
unfolding rows
rows_cons zero words = sym (append-nil (row_at words 0))
rows_cons (suc n) words =
    let e : record_width + n * record_width ≡ suc n * record_width = omega arith in
    rw (rows_cons n words, row_at_drop record_width words (n * record_width), e, append_assoc)

row_at_line : (d : Delivery) (rest : List ℕ) → row_at (record_words d ++ rest) 0 ≡ line d
unfolding row_at four_at
row_at_line d rest = refl

pub rows_lines : (ds : List Delivery) (rest : List ℕ) → rows (length ds) (delivery_words ds ++ rest) ≡ lines ds
unfolding rows
rows_lines [] rest = refl
rows_lines (d ∷ ds) rest = rows_cons (length ds) (delivery_words (d ∷ ds) ++ rest) ∙ ap₂ ◌++◌ (row_at_line d (delivery_words ds ++ rest)) (rows_lines ds rest)
