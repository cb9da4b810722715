-- Laws of a section at the front of some bytes, over how one of its things lies in bytes: what is written is read, what is read is written.
-- Assumes nothing.
use Prim.Native.Nat.{ℕ, ◌+◌, ◌*◌, ◌^◌, ◌≤◌, ◌<◌}
use native.Mathlib.Omega.{arith}
use mathlib.Core.Bool.{true}
use mathlib.Core.List.{List, ◌++◌, append_assoc}
use mathlib.Core.Path.{◌≡◌}
use lib.ListN.{length, take, drop, length-append, length-drop, take-append-drop}
use lib.Seq.{take-add, drop_at}
use Rattle.wire.specs.Number.{byte, bytes, Below}
use Rattle.wire.specs.Claim.{count_width}
use Rattle.wire.specs.Run.{Layout, write_run, Each}
use Rattle.wire.specs.Image.{section_bytes, count_of, count_fits, things_in}
use Rattle.wire.specs.Lengths.{length_bytes}
use Rattle.wire.proofs.NumberLaws.{below_drop, number_at_bytes, bytes_number_at}
use Rattle.wire.proofs.RunLaws.{Faithful, length_read_run, length_write_run, read_run_write_run, write_run_read_run}
use Rattle.wire.proofs.ImageLaws.{count_fits_of}

module _ {A : Type 0} {l : Layout A} {Fit : A → Type 0} (faith : Faithful l Fit) where
  pub length_section_bytes : (xs : List A) → length (section_bytes l xs) ≡ count_width + l.size * length xs
  length_section_bytes xs = rw (length-append, length_bytes, length_write_run faith)

  -- ---- what is written is read, whatever follows it

  module _ (xs : List A) (rest : List ℕ) (few : length xs < byte ^ count_width) where
    pub count_of_section : count_of (section_bytes l xs ++ rest) ≡ length xs
    count_of_section = rw append_assoc (number_at_bytes count_width (length xs) (write_run l xs ++ rest) few)

    pub things_in_section : Each Fit xs → things_in l (section_bytes l xs ++ rest) ≡ xs
    things_in_section f =
        let front : drop count_width (section_bytes l xs ++ rest) ≡ write_run l xs ++ rest =
        rw append_assoc (drop_at (bytes count_width (length xs)) (write_run l xs ++ rest) count_width (length_bytes count_width (length xs))) in
        rw (count_of_section, front) (read_run_write_run faith xs f rest)

    pub behind_section : drop (count_width + l.size * count_of (section_bytes l xs ++ rest)) (section_bytes l xs ++ rest) ≡ rest
    behind_section = rw count_of_section (drop_at (section_bytes l xs) rest (count_width + l.size * length xs) (length_section_bytes xs))

    pub count_fits_section : (most : ℕ) → length xs ≤ most → count_fits most (section_bytes l xs ++ rest) ≡ true
    count_fits_section most h =
        count_fits_of most (section_bytes l xs ++ rest) (rw (length-append (section_bytes l xs) rest, length_section_bytes) (omega arith)) (rw count_of_section h)

  -- ---- what is read is written

  pub section_bytes_things_in : (bs : List ℕ) → Below byte bs → count_width + l.size * count_of bs ≤ length bs
      → section_bytes l (things_in l bs) ++ drop (count_width + l.size * count_of bs) bs ≡ bs
  section_bytes_things_in bs h p =
      let n = count_of bs in
      let count : bytes count_width (length (things_in l bs)) ≡ take count_width bs = rw length_read_run (bytes_number_at bs 0 count_width h (omega arith)) in
      let room : l.size * n ≤ length (drop count_width bs) = rw length-drop (omega arith) in
      let things : write_run l (things_in l bs) ≡ take (l.size * n) (drop count_width bs) =
      write_run_read_run faith n (drop count_width bs) (below_drop count_width bs h) room in
      let section : section_bytes l (things_in l bs) ≡ take (count_width + l.size * n) bs = rw (count, things, take-add) in
      rw section (take-append-drop (count_width + l.size * n) bs)
