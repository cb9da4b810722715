-- Laws of text at a place of a buffer (specs/Put). In order: where there is room and where there is none; a run over a part as long; one character; one piece
-- after another; that a text ends within the buffer; and what is left to write. Assumes nothing.
use Prim.Native.Nat.{ℕ, ◌+◌, ◌-◌, ◌≤◌, ◌<◌}
use native.Mathlib.Omega.{arith}
use mathlib.Core.List.{List, [], ◌∷◌, ◌++◌}
use mathlib.Core.Path.{◌≡◌, refl, ap, sym, ◌∙◌}
use borrow.Author.Tests.{le-leb, lt-leb}
use lib.ListN.{length, set, length-append}
use Rattle.keys.specs.Place.{put_at}
use Rattle.keys.proofs.PlaceLaws.{length_put_at, put_at_nil, put_at_append, put_at_one}
use borrow.Rule.Slice.PartMut.{put_mid}
use Rattle.text.specs.Put.{put_from, end_from, put_before, start_before, Put}

-- ---- where there is room, and where there is none

module _ (out : List ℕ) (at : ℕ) (text : List ℕ) where
  pub from_room : at + length text ≤ length out → (end_from out at text ≡ at + length text) × (put_from out at text ≡ put_at out at text)
  unfolding end_from put_from
  from_room h = let t = le-leb (at + length text) (length out) h in (rw t, rw t)

  pub from_none : length out < at + length text → (end_from out at text ≡ at) × (put_from out at text ≡ out)
  unfolding end_from put_from
  from_none h = let t = lt-leb (at + length text) (length out) h in (rw t, rw t)

  -- of a text that ends at the place
  pub before_room : at ≤ length out → length text ≤ at → (start_before out at text ≡ at - length text) × (put_before out at text ≡ put_at out (at - length text) text)
  unfolding start_before put_before
  before_room h k =
      let s = le-leb at (length out) h in
      let t = le-leb (length text) at k in
      (rw (s, t), rw (s, t))

  pub before_short : at ≤ length out → at < length text → (start_before out at text ≡ at) × (put_before out at text ≡ out)
  unfolding start_before put_before
  before_short h k =
      let s = le-leb at (length out) h in
      let t = lt-leb (length text) at k in
      (rw (s, t), rw (s, t))

  pub before_past : length out < at → (start_before out at text ≡ at) × (put_before out at text ≡ out)
  unfolding start_before put_before
  before_past h = let s = lt-leb at (length out) h in (rw s, rw s)

  -- what a call has put, where there is room for so much
  pub put_from_lem : {most end : ℕ} {after : List ℕ} → end ≡ end_from out at text → after ≡ put_from out at text → length text ≤ most → at + most ≤ length out
      → Put out at text most end after
  put_from_lem e f few room =
      let (ends, puts) = from_room (omega arith) in
      record { end_is = e ∙ ends; end_by = omega (arith, e, ends); after_is = f ∙ puts }

-- ---- one run, written over the part of the buffer that it is as long as

pub put_part : (s : List ℕ) (at n : ℕ) (xs : List ℕ) → n ≡ length xs → put_mid at n s xs ≡ put_at s at xs
unfolding put_at
put_part s at n xs e = rw e

-- ---- one character

pub put_one : (s : List ℕ) (at b : ℕ) → at < length s → Put s at (b ∷ []) 1 (at + 1) (set s at b)
put_one s at b h = record { end_is = refl; end_by = omega arith; after_is = put_at_one s at b h }

-- ---- one piece after another

pub put_then : {s t u xs ys : List ℕ} {at a b most m n : ℕ} → Put s at xs a m t → Put t m ys b n u → at + a ≤ length s → n ≤ at + most
    → Put s at (xs ++ ys) most n u
put_then {s} {t} {u} {xs} {ys} {at} {a} {b} {most} {m} {n} p q h k =
    let fits : at + length xs ≤ length s = omega (arith, p.end_is, p.end_by) in
    record {
      end_is = omega (arith, p.end_is, q.end_is, length-append xs ys);
      end_by = k;
      after_is = q.after_is ∙ (rw (p.after_is, p.end_is) (put_at_append s at xs ys (length xs) refl fits));
    }

-- ---- it ends within the buffer

pub put_within : {s t xs : List ℕ} {at most n : ℕ} → Put s at xs most n t → at + most ≤ length s → n ≤ length t
put_within {s} {t} {xs} {at} {most} {n} p h =
    let e = p.end_is in
    let b = p.end_by in
    rw (p.after_is, length_put_at s at xs (omega arith)) (omega arith)

-- ---- what is left to write makes up the whole: once `rest` stands at i in `out`, `whole` stands at `at` in `before`

pub record Left (before : List ℕ) (at : ℕ) (whole out : List ℕ) (i : ℕ) (rest : List ℕ) : Type 0 where
  pub ends : i + length rest ≡ at + length whole
  pub put : put_at out i rest ≡ put_at before at whole
  pub long : length out ≡ length before

pub left_all : (s : List ℕ) (at : ℕ) (whole : List ℕ) → Left s at whole s at whole
left_all s at whole = record { ends = refl; put = refl; long = refl }

module _ {s whole t : List ℕ} {at i : ℕ} where
  -- the next piece
  pub left_more : {rest : List ℕ} → Left s at whole t i rest → (xs ys : List ℕ) → rest ≡ xs ++ ys → at + length whole ≤ length s
      → {u : List ℕ} {j : ℕ} → u ≡ put_at t i xs → j ≡ i + length xs → Left s at whole u j ys
  left_more left xs ys e room {u} {j} f g =
      let ends = left.ends in
      let long = left.long in
      let both : length (xs ++ ys) ≡ length xs + length ys = length-append xs ys in
      let same = ap length e in
      record {
        ends = omega arith;
        put = rw (f, g) (put_at_append t i xs ys (length xs) refl (omega arith) ∙ (ap (put_at t i) (sym e) ∙ left.put));
        long = rw (f, length_put_at t i xs (omega arith)) long;
      }

  -- nothing
  pub left_none : Left s at whole t i [] → (i ≡ at + length whole) × (t ≡ put_at s at whole)
  left_none left = (let e = left.ends in omega arith, sym (put_at_nil t i) ∙ left.put)
