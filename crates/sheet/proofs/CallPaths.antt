-- One law for each way that src/call.rt goes. In order: room for any sheet; a lent run of keys; a store. Assumes nothing.
use Prim.Native.Nat.{ℕ, ◌≤◌, ◌<◌}
use native.Mathlib.Nat.{zero-add}
use native.Mathlib.Omega.{arith}
use mathlib.Core.Bool.{Bool, true, false, not}
use mathlib.Core.List.{List}
use mathlib.Core.Path.{◌≡◌, ap, sym, ◌∙◌}
use borrow.Author.Tests.{le-leb, lt-leb, not-true}
use lib.ListN.{length, take}
use Rattle.keys.specs.declared.store.Store.{Store}
use Rattle.keys.specs.Store.{limit, keys_of, in_order}
use Rattle.keys.specs.Lent.{summed_in}
use Rattle.keys.specs.Place.{put_at}
use Rattle.keys.proofs.StoreLaws.{in_order_count, length_keys_of}
use Rattle.keys.proofs.LentLaws.{summed_in_in_order}
use Rattle.wire.specs.Answer.{Length}
use Rattle.text.specs.Put.{Put}
use Rattle.sheet.specs.Sheet.{sheet_text, sheet_length}
use Rattle.sheet.specs.Call.{sheet_limit, write_sheet, sheet_lent, write_sheet_in, sheet_in_lent}
use Rattle.sheet.specs.Laid.{KeysFit, SheetGiven}
use Rattle.sheet.proofs.SheetLaws.{length_sheet_text, sheet_length_limit}

-- ---- room for any sheet

module _ (s l : List ℕ) (few : length l ≤ limit) (fit : KeysFit l) (room : sheet_limit ≤ length s) where
  pub whole_given : SheetGiven l (length s)
  whole_given = record { few = few; fits = omega (arith, length_sheet_text l fit few, sheet_length_limit (length l) few) }

  pub whole_put : {n : ℕ} {t : List ℕ} → n ≡ sheet_length (length l) → t ≡ put_at s 0 (sheet_text l) → Put s 0 (sheet_text l) sheet_limit n t
  whole_put e f = record {
    end_is = e ∙ (sym (length_sheet_text l fit few) ∙ sym (zero-add (length (sheet_text l))));
    end_by = omega (arith, sheet_length_limit (length l) few);
    after_is = f;
  }

-- ---- a lent run of keys

module _ (l out : List ℕ) where
  pub long : limit < length l → (record { number = 1; length = 0 } ≡ write_sheet_in l (length out)) × (out ≡ sheet_in_lent l out)
  unfolding write_sheet_in sheet_in_lent
  long h = let t = lt-leb (length l) limit h in (rw t, rw t)

  module _ (few : length l ≤ limit) (fit : KeysFit l) {n : ℕ} (told : n ≡ sheet_length (length l)) where
    own_length : n ≡ length (sheet_text l)
    own_length = told ∙ sym (length_sheet_text l fit few)

    pub short : length out < n → (record { number = 15; length = 0 } ≡ write_sheet_in l (length out)) × (out ≡ sheet_in_lent l out)
    unfolding write_sheet_in sheet_in_lent
    short h =
        let within = le-leb (length l) limit few in
        let t = lt-leb (length (sheet_text l)) (length out) (omega (arith, own_length)) in
        (rw (within, t), rw (within, t))

    module _ (room : n ≤ length out) where
      pub sheet_given : SheetGiven l (length out)
      sheet_given = record { few = few; fits = omega (arith, own_length) }

      pub sheet_laid : {t : List ℕ} → t ≡ put_at out 0 (sheet_text l)
          → (record { number = 0; length = n } ≡ write_sheet_in l (length out)) × (t ≡ sheet_in_lent l out)
      unfolding write_sheet_in sheet_in_lent
      sheet_laid e =
          let within = le-leb (length l) limit few in
          let t = le-leb (length (sheet_text l)) (length out) (omega (arith, own_length)) in
          (rw (within, t) (ap (λ (m : ℕ). record { number = 0; length = m }) own_length), e ∙ rw (within, t))

-- ---- a store

-- .. whose parts are lent
module _ (s : Store) (keys sums : List ℕ) (count : ℕ) (lent : (keys ≡ s.keys) × (sums ≡ s.sums) × (count ≡ s.count)) where
  pub lent_summed : (a : Bool) → a ≡ summed_in keys sums count → a ≡ summed_in s.keys s.sums s.count
  lent_summed a e = rw (← lent.0, ← lent.1, ← lent.2) e

module _ (s : Store) (long : length s.keys ≡ limit) {ordered : Bool} (tested : ordered ≡ summed_in s.keys s.sums s.count) where
  pub unordered : ordered ≡ false → (out : List ℕ) → (record { number = 1; length = 0 } ≡ write_sheet s (length out)) × (out ≡ sheet_lent s out)
  unfolding write_sheet sheet_lent
  unordered out_of_order out =
      let t : in_order s ≡ false = sym (summed_in_in_order s long) ∙ (sym tested ∙ out_of_order) in
      (rw t, rw t)

  -- what is told, and what is left, each by itself
  module _ (out : List ℕ) (no : not ordered ≡ true) where
    pub unordered_told : record { number = 1; length = 0 } ≡ write_sheet s (length out)
    unordered_told = (unordered (not-true ordered no) out).0

    pub unordered_lent : out ≡ sheet_lent s out
    unordered_lent = (unordered (not-true ordered no) out).1

  module _ (yes : ordered ≡ true) where
    in_order_lem : in_order s ≡ true
    in_order_lem = sym (summed_in_in_order s long) ∙ (sym tested ∙ yes)

    pub count_within : s.count ≤ limit
    count_within = in_order_count s in_order_lem

    pub in_order_laid : (out : List ℕ) {w : Length} {t : List ℕ}
        → (w ≡ write_sheet_in (take s.count s.keys) (length out)) × (t ≡ sheet_in_lent (take s.count s.keys) out)
        → (w ≡ write_sheet s (length out)) × (t ≡ sheet_lent s out)
    unfolding write_sheet_in write_sheet sheet_in_lent sheet_lent
    in_order_laid out (told, lent) =
        let few = le-leb (length (keys_of s)) limit (omega (arith, count_within, length_keys_of s long in_order_lem)) in
        (told ∙ rw (in_order_lem, few), lent ∙ rw (in_order_lem, few))
