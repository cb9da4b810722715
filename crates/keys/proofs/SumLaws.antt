-- Running sums: `running` of Store, `sum_before` and `resummed` of Lent. In order: running sums in parts; sums that are right below a mark (`RightTo`), which
-- is as far as they are read; keys added past the mark; sums worked out anew from the mark on; a store with a mark (`MarkedOf`).
-- Not here: how many they are (StoreLaws), and that a span's sum is read from two of them (`claims`, proofs/SpanSums). Assumes nothing.
use Prim.Native.Nat.{ℕ, zero, suc, ◌+◌, ◌-◌, ◌≤◌, ◌<◌}
use mathlib.Core.Bool.{Bool, true, false, cond, ◌&&◌}
use mathlib.Core.List.{List, [], ◌∷◌, ◌++◌, append_assoc}
use mathlib.Core.Path.{◌≡◌, refl, sym, ap, ap₂, ◌∙◌, subst}
use native.Mathlib.Omega.{arith}
use borrow.Author.Tests.{leb-true, le-leb, lt-leb}
use lib.Bits.{bit_xor}
use lib.Dec.{leb}
use lib.ListN.{length, take, drop, get_or, length-append, length-take, length-drop, take-append-drop}
use lib.Seq.{get_or-take, take-take, take_all, drop-drop, take_at, drop_at, length-take-le, take-append-le, drop-append-le, take-append-add, drop-append-add}
use Rattle.keys.specs.Store.{limit, zeros, store_of, running_from, running}
use Rattle.keys.specs.Place.{put_at}
use Rattle.keys.specs.Lent.{sum_before, resummed, store_by, renewed_from, Marked, marked_all, finish_in}
use Rattle.keys.proofs.Tests.{and_left, and_right}
use Rattle.keys.proofs.PlaceLaws.{drop_replicate, put_at_past, length_put_at}
use Rattle.keys.proofs.StoreLaws.{length_running, count_store_of, keys_store_of, sums_store_of, length_keys_store_of, length_sums_store_of}

-- ---- running sums in parts

pub take_running : (x n : ℕ) (l : List ℕ) → take n (running_from x l) ≡ running_from x (take n l)
take_running x zero l = refl
take_running x (suc n) [] = refl
take_running x (suc n) (k ∷ ks) = ap (λ (r : List ℕ). bit_xor x k ∷ r) (take_running (bit_xor x k) n ks)

-- those from a place on follow from the one before it
pub running_parts : (x i : ℕ) (l : List ℕ) → i ≤ length l → take i (running_from x l) ++ running_from (get_or (x ∷ running_from x l) i 0) (drop i l) ≡ running_from x l
running_parts x zero l h = refl
running_parts x (suc i) [] h = absurd (omega arith)
running_parts x (suc i) (k ∷ ks) h = ap (λ (r : List ℕ). bit_xor x k ∷ r) (running_parts (bit_xor x k) i ks (omega arith))

-- ---- sums that are right below a mark

-- Beside the keys l stand sums of which those below the mark are right; past the keys they are 0.
pub record RightTo (l sums : List ℕ) (mark : ℕ) : Type 0 where
  pub few : mark ≤ length l
  pub right : take mark sums ≡ take mark (running l)
  pub rest : drop (length l) sums ≡ zeros (limit - length l)
  pub long : length sums ≡ limit

-- all of them: they are the store's
pub right_store : (l : List ℕ) → length l ≤ limit → RightTo l (store_of l).sums (length l)
right_store l h =
    let n : length (running l) ≡ length l = length_running 0 l in
    record {
      few = omega arith;
      right = rw (sums_store_of l) (take_at (running l) (zeros (limit - length l)) (length l) n ∙ sym (take_all (length l) (running l) (omega arith)));
      rest = rw (sums_store_of l) (drop_at (running l) (zeros (limit - length l)) (length l) n);
      long = length_sums_store_of l h;
    }

pub right_all : (l sums : List ℕ) → RightTo l sums (length l) → sums ≡ (store_of l).sums
right_all l sums r =
    let n : length (running l) ≡ length l = length_running 0 l in
    rw (sums_store_of l)
    (sym (take-append-drop (length l) sums) ∙ ap₂ (λ (a b : List ℕ). a ++ b) (r.right ∙ take_all (length l) (running l) (omega arith)) r.rest)

-- a lower mark
pub right_less : (l sums : List ℕ) (m n : ℕ) → RightTo l sums m → n ≤ m → RightTo l sums n
right_less l sums m n r h = record {
  few = omega (arith, r.few);
  right = sym (take-take n m sums h) ∙ (ap (take n) r.right ∙ take-take n m (running l) h);
  rest = r.rest;
  long = r.long;
}

-- a sum below the mark
pub get_d_right : (l sums : List ℕ) (mark i : ℕ) → RightTo l sums mark → i < mark → get_or sums i 0 ≡ get_or (running l) i 0
get_d_right l sums mark i r h =
    sym (get_or-take mark sums i 0 h) ∙ (ap (λ (s : List ℕ). get_or s i 0) r.right ∙ get_or-take mark (running l) i 0 h)

before_right : (l sums : List ℕ) (mark : ℕ) → RightTo l sums mark → sum_before sums mark ≡ sum_before (running l) mark
before_right l sums zero r = refl
before_right l sums (suc i) r = get_d_right l sums (suc i) i r (omega arith)

drop_zeros : (k n : ℕ) → drop k (zeros n) ≡ zeros (n - k)
unfolding zeros
drop_zeros k n = drop_replicate k n 0

-- other keys, the same below the mark and not fewer
pub right_grown : (l m sums : List ℕ) (mark : ℕ) → RightTo l sums mark → length l ≤ length m → take mark m ≡ take mark l → RightTo m sums mark
right_grown l m sums mark r h e =
    let more : length m ≡ length l + (length m - length l) = omega arith in
    let left : limit - length l - (length m - length l) ≡ limit - length m = omega arith in
    record {
      few = omega (arith, r.few);
      right = r.right ∙ (take_running 0 mark l ∙ (ap running (sym e) ∙ sym (take_running 0 mark m)));
      rest =
          ap (λ (n : ℕ). drop n sums) more
          ∙ (sym (drop-drop (length m - length l) (length l) sums)
          ∙ (ap (drop (length m - length l)) r.rest ∙ (drop_zeros (length m - length l) (limit - length l) ∙ ap zeros left)));
      long = r.long;
    }

-- ---- sums worked out anew, up to a place

pub length_resummed : (keys sums : List ℕ) (first count : ℕ) → length sums ≡ limit → length (resummed keys sums first count) ≡ limit
unfolding resummed
length_resummed keys sums first count long = go (leb first count && (leb count (length keys) && leb count limit)) refl
  where
    anew : List ℕ
    anew = running_from (sum_before sums first) (take (count - first) (drop first keys))

    go : (t : Bool) → (leb first count && (leb count (length keys) && leb count limit)) ≡ t → length (cond t (put_at sums first anew) sums) ≡ limit
    go true e =
        let low : first ≤ count = leb-true first count (and_left (leb first count) (leb count (length keys) && leb count limit) e) in
        let rest = and_right (leb first count) (leb count (length keys) && leb count limit) e in
        let high : count ≤ limit = leb-true count limit (and_right (leb count (length keys)) (leb count limit) rest) in
        let many : length anew ≡ length (take (count - first) (drop first keys)) = length_running (sum_before sums first) (take (count - first) (drop first keys)) in
        length_put_at sums first anew (omega (arith, length-take (count - first) (drop first keys))) ∙ long
    go false e = long

-- none where the place is before the mark
pub resummed_past : (keys sums : List ℕ) (first count : ℕ) → count < first → resummed keys sums first count ≡ sums
unfolding resummed
resummed_past keys sums first count h = rw (lt-leb first count h)

module _ (l : List ℕ) (short : length l ≤ limit) (sums : List ℕ) (mark end : ℕ) (r : RightTo l sums mark) (low : mark ≤ end) (high : end ≤ length l) where
  -- what is worked out
  part : List ℕ
  part = running_from (sum_before sums mark) (take (end - mark) (drop mark l))

  length_part : length part ≡ end - mark
  unfolding part
  length_part = length_running (sum_before sums mark) (take (end - mark) (drop mark l)) ∙ length-take-le (end - mark) (drop mark l) (rw length-drop (omega arith))

  resummed_part : resummed (store_of l).keys sums mark end ≡ put_at sums mark part
  unfolding resummed part
  resummed_part =
      let a : end ≤ length (store_of l).keys = omega (arith, length_keys_store_of l short) in
      let b : end ≤ limit = omega arith in
      let front : take (end - mark) (drop mark (store_of l).keys) ≡ take (end - mark) (drop mark l) =
      rw (keys_store_of l, drop-append-le mark l (zeros (limit - length l)) (omega arith))
      (take-append-le (end - mark) (drop mark l) (zeros (limit - length l)) (rw length-drop (omega arith))) in
      rw (le-leb mark end low, le-leb end (length (store_of l).keys) a, le-leb end limit b, front)

  -- it goes on where the mark stands
  part_right : take mark sums ++ part ≡ take end (running l)
  unfolding part
  part_right =
      let x : ℕ = sum_before (running l) mark in
      let n : length (running l) ≡ length l = length_running 0 l in
      let m : length (take mark (running l)) ≡ mark = length-take-le mark (running l) (omega arith) in
      let on : end ≡ length (take mark (running l)) + (end - mark) = omega arith in
      let cut : take end (running l) ≡ take mark (running l) ++ take (end - mark) (running_from x (drop mark l)) =
      ap₂ take on (sym (running_parts 0 mark l r.few)) ∙ take-append-add (take mark (running l)) (running_from x (drop mark l)) (end - mark) in
      ap₂ (λ (a : List ℕ) (y : ℕ). a ++ running_from y (take (end - mark) (drop mark l))) r.right (before_right l sums mark r)
      ∙ (ap (λ (b : List ℕ). take mark (running l) ++ b) (sym (take_running x (end - mark) (drop mark l))) ∙ sym cut)

  pub resummed_right : RightTo l (resummed (store_of l).keys sums mark end) end
  resummed_right =
      let front : length (take mark sums ++ part) ≡ end =
      length-append (take mark sums) part ∙ (omega (arith, length_part, r.long, length-take-le mark sums (omega (arith, r.long, r.few)))) in
      let whole : resummed (store_of l).keys sums mark end ≡ (take mark sums ++ part) ++ drop (mark + length part) sums =
      resummed_part ∙ (put_at_past sums mark part ∙ sym (append_assoc (take mark sums) part (drop (mark + length part) sums))) in
      let gap : length l ≡ length (take mark sums ++ part) + (length l - end) = omega arith in
      let back : mark + length part + (length l - end) ≡ length l = omega (arith, length_part) in
      record {
        few = high;
        right = ap (take end) whole ∙ (take_at (take mark sums ++ part) (drop (mark + length part) sums) end front ∙ part_right);
        rest =
            ap₂ drop gap whole
            ∙ (drop-append-add (take mark sums ++ part) (drop (mark + length part) sums) (length l - end)
            ∙ (drop-drop (length l - end) (mark + length part) sums ∙ (ap (λ (n : ℕ). drop n sums) back ∙ r.rest)));
        long = length_resummed (store_of l).keys sums mark end r.long;
      }

-- ---- a store with a mark

-- a store of the keys l, its sums right below the mark
pub record MarkedOf (l : List ℕ) (m : Marked) : Type 0 where
  pub keys : m.store.keys ≡ (store_of l).keys
  pub count : m.store.count ≡ length l
  pub sums : RightTo l m.store.sums m.mark

pub marked_all_lem : (l : List ℕ) → length l ≤ limit → MarkedOf l (marked_all (store_of l))
marked_all_lem l h = record { keys = refl; count = count_store_of l; sums = subst (RightTo l (store_of l).sums) (sym (count_store_of l)) (right_store l h) }

-- once all sums are worked out, it is the store of its keys
pub finish_marked : (l : List ℕ) (m : Marked) → length l ≤ limit → MarkedOf l m → finish_in m ≡ store_of l
finish_marked l m h o =
    let anew : resummed m.store.keys m.store.sums m.mark m.store.count ≡ resummed (store_of l).keys m.store.sums m.mark (length l) =
    ap₂ (λ (k : List ℕ) (n : ℕ). resummed k m.store.sums m.mark n) o.keys o.count in
    let all : resummed (store_of l).keys m.store.sums m.mark (length l) ≡ (store_of l).sums =
    right_all l (resummed (store_of l).keys m.store.sums m.mark (length l))
    (resummed_right l h m.store.sums m.mark (length l) o.sums o.sums.few (omega arith)) in
    λ i. store_by (o.keys i) ((anew ∙ all) i) ((o.count ∙ sym (count_store_of l)) i)

-- so it is where the sums are those of fewer keys, and all of them are worked out
pub renewed_grown : (l m : List ℕ) → length l ≤ length m → length m ≤ limit → renewed_from 0 (store_by (store_of m).keys (store_of l).sums (store_of m).count) ≡ store_of m
renewed_grown l m h g =
    finish_marked m (record { store = store_by (store_of m).keys (store_of l).sums (store_of m).count; mark = 0 }) g
    (record {
      keys = refl;
      count = count_store_of m;
      sums = right_grown l m (store_of l).sums 0 (right_less l (store_of l).sums (length l) 0 (right_store l (omega arith)) (omega arith)) h refl;
    })
