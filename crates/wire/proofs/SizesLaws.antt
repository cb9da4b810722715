-- Laws of specs/Sizes: a part and a whole image as their counts tell them. Assumes nothing.
use Prim.Native.Nat.{ℕ, ◌+◌, ◌≤◌}
use native.Mathlib.Omega.{arith}
use mathlib.Core.Bool.{Bool, true, false, ◌&&◌}
use Rattle.std.specs.Prelude.{Result, Ok, Err}
use mathlib.Core.List.{List}
use mathlib.Core.Path.{◌≡◌, refl}
use lib.ListN.{length}
use Rattle.keys.specs.Store.{limit}
use Rattle.keys.proofs.Tests.{and_left, and_right}
use Rattle.rule.specs.Table.{table_limit}
use Rattle.wire.specs.Image.{key_section, claim_section, sections, section_length, count_of, behind, count_fits, counts_fit, told_length}
use Rattle.claims.specs.declared.refusal.Refusal.{Refusal}
use Rattle.claims.specs.declared.refusal.Refusal.TheVariants.{WrongImageLength}
use Rattle.wire.specs.declared.images.Sizes.{Sizes}
use Rattle.wire.specs.Sizes.{count_told, sizes_of, length_of, AsTold}
use Rattle.wire.proofs.ImageLaws.{count_fits_yes}

module _ (most : ℕ) (bs : List ℕ) where
  pub count_told_no : count_fits most bs ≡ false → Err WrongImageLength ≡ count_told most bs
  unfolding count_told
  count_told_no e = rw e

  pub count_told_yes : {k : ℕ} → k ≡ count_of bs → count_fits most bs ≡ true → Ok k ≡ count_told most bs
  unfolding count_told
  count_told_yes k e = rw (e, k)

  -- .. and back
  pub count_told_err : {r : Refusal} → Err r ≡ count_told most bs → (count_fits most bs ≡ false) × (r ≡ WrongImageLength)
  unfolding count_told
  count_told_err {r} h = go (count_fits most bs) refl
    where
      go : (t : Bool) → count_fits most bs ≡ t → (count_fits most bs ≡ false) × (r ≡ WrongImageLength)
      go true e = let f : ◌≡◌ {A = Result ℕ Refusal} (Err r) (Ok (count_of bs)) = rw e at h in cc
      go false e = let f : ◌≡◌ {A = Result ℕ Refusal} (Err r) (Err WrongImageLength) = rw e at h in (e, cc)

  pub count_told_ok : {k : ℕ} → Ok k ≡ count_told most bs → (count_fits most bs ≡ true) × (k ≡ count_of bs)
  unfolding count_told
  count_told_ok {k} h = go (count_fits most bs) refl
    where
      go : (t : Bool) → count_fits most bs ≡ t → (count_fits most bs ≡ true) × (k ≡ count_of bs)
      go true e = let f : ◌≡◌ {A = Result ℕ Refusal} (Ok k) (Ok (count_of bs)) = rw e at h in (e, cc)
      go false e = let f : ◌≡◌ {A = Result ℕ Refusal} (Ok k) (Err WrongImageLength) = rw e at h in cc

module _ (bs : List ℕ) where
  abbrev both : Sizes
  both = record { keys = count_of bs; pending = count_of (behind key_section bs) }

  pub sizes_of_no : counts_fit sections bs ≡ false → Err WrongImageLength ≡ sizes_of bs
  unfolding sizes_of
  sizes_of_no e = rw e

  pub sizes_of_yes : {s : Sizes} → s ≡ both → counts_fit sections bs ≡ true → Ok s ≡ sizes_of bs
  unfolding sizes_of
  sizes_of_yes s e = rw (e, s)

  -- .. and back
  pub sizes_of_err : {r : Refusal} → Err r ≡ sizes_of bs → (counts_fit sections bs ≡ false) × (r ≡ WrongImageLength)
  unfolding sizes_of
  sizes_of_err {r} h = go (counts_fit sections bs) refl
    where
      go : (t : Bool) → counts_fit sections bs ≡ t → (counts_fit sections bs ≡ false) × (r ≡ WrongImageLength)
      go true e = let f : ◌≡◌ {A = Result Sizes Refusal} (Err r) (Ok both) = rw e at h in cc
      go false e = let f : ◌≡◌ {A = Result Sizes Refusal} (Err r) (Err WrongImageLength) = rw e at h in (e, cc)

  pub sizes_of_ok : {s : Sizes} → Ok s ≡ sizes_of bs → (counts_fit sections bs ≡ true) × (s ≡ both)
  unfolding sizes_of
  sizes_of_ok {s} h = go (counts_fit sections bs) refl
    where
      go : (t : Bool) → counts_fit sections bs ≡ t → (counts_fit sections bs ≡ true) × (s ≡ both)
      go true e = let f : ◌≡◌ {A = Result Sizes Refusal} (Ok s) (Ok both) = rw e at h in (e, cc)
      go false e = let f : ◌≡◌ {A = Result Sizes Refusal} (Ok s) (Err WrongImageLength) = rw e at h in cc

  -- the length that the counts tell
  pub told_length_of : told_length sections bs ≡ length_of both
  unfolding told_length
  told_length_of = omega arith

-- counts and length as told leave room for what is read
module _ {bs : List ℕ} {n m : ℕ} (told : AsTold bs n m) where
  keys_told : count_fits limit bs ≡ true
  unfolding counts_fit
  keys_told = and_left (count_fits limit bs) (count_fits table_limit (behind key_section bs) && true) told.counts

  pending_told : count_fits table_limit (behind key_section bs) ≡ true
  unfolding counts_fit
  pending_told =
      let rest = count_fits table_limit (behind key_section bs) in
      and_left rest true (and_right (count_fits limit bs) (rest && true) told.counts)

  pub told_room : (n ≤ limit) × (m ≤ table_limit) × (section_length key_section n + section_length claim_section m ≤ length bs)
  unfolding told_length
  told_room =
      let p : count_of bs ≤ limit = (count_fits_yes limit bs keys_told).1 in
      let q : count_of (behind key_section bs) ≤ table_limit = (count_fits_yes table_limit (behind key_section bs) pending_told).1 in
      let k = told.keys in
      let l = told.pending in
      let w = told.whole in
      (rw k p, rw l q, rw (k, l, w) (omega arith))
