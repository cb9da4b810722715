-- One law for each way that src/runs.rt goes, in its order: a turn of the walk, over keys that are equal or of which one is less; the walk over two runs, which
-- writes them where there are places; what is left of both, copied behind; and merged into a third. Assumes nothing.
use Prim.Native.Nat.{ℕ, ◌+◌, ◌-◌, ◌≤◌, ◌<◌, min}
use native.Mathlib.Omega.{arith}
use mathlib.Core.List.{List}
use mathlib.Core.Logic.{◌⊎◌, inl, inr}
use mathlib.Core.Path.{◌≡◌, refl, ap, ◌∙◌}
use borrow.Author.Tests.{lt-ltb, le-ltb, le-leb, lt-leb}
use lib.Dec.{ltb, lit<}
use lib.ListN.{length, take, drop, get_or, set, length-set, length-drop}
use Rattle.keys.specs.Store.{limit}
use Rattle.keys.specs.Place.{put_at}
use Rattle.keys.proofs.PlaceLaws.{put_at_cons, put_at_append, slice_rest}
use Rattle.merging.specs.declared.runs.Reached.{Reached}
use Rattle.merging.specs.Merge.{merged, merged_in, OneDone}
use Rattle.merging.proofs.MergeLaws.{length_merged}
use Rattle.merging.proofs.Walk.{Walked, Turned, walk_start, walk_first, walk_second, walk_same, walk_end, walk_count}

-- ---- a turn: the keys are equal, or one is less

module _ (l m : List ℕ) {i j n : ℕ} (so : Walked ltb l m i j n) (h : i < length l) (inside : j < length m) where
  abbrev a : ℕ
  a = get_or l i 0

  abbrev b : ℕ
  b = get_or m j 0

  pass_both : a ≡ b → Turned ltb l m i j n (min a b) (i + 1) (j + 1)
  pass_both p =
      let least : min a b ≡ a = omega arith in
      rw least (walk_same ltb l m so 0 h inside (le-ltb a b (omega arith)) (le-ltb b a (omega arith)))

  pass_first : a < b → Turned ltb l m i j n (min a b) (i + 1) j
  pass_first p =
      let least : min a b ≡ a = omega arith in
      rw least (walk_first ltb l m so 0 h inside (lt-ltb a b p))

  pass_second : (a ≡ b → ⊥) → b ≤ a → Turned ltb l m i j n (min a b) i (j + 1)
  pass_second p q =
      let less : b < a = omega arith in
      let least : min a b ≡ b = omega arith in
      rw least (walk_second ltb l m so 0 h inside (le-ltb a b q) (lt-ltb b a less))

-- ---- two runs walked until one is done: what is left of both, merged and written behind what is, gives what is to come out, where it writes

pub record Walking (places : ℕ) (one other into₀ into : List ℕ) (i j n : ℕ) : Type 0 where
  pub walked : Walked ltb one other i j n
  pub long : length into ≡ places
  pub left : 0 < places → put_at into n (merged ltb (drop i one) (drop j other)) ≡ put_at into₀ 0 (merged ltb one other)

-- a key written to its place, if any is
pub record Wrote (places : ℕ) (into after : List ℕ) (n x : ℕ) : Type 0 where
  pub long : length after ≡ length into
  pub here : 0 < places → after ≡ set into n x

pub wrote : {places : ℕ} (into : List ℕ) (n x : ℕ) → Wrote places into (set into n x) n x
wrote into n x = record { long = length-set into n x; here = λ e. refl }

pub wrote_not : {places : ℕ} (into : List ℕ) (n x : ℕ) → places ≤ 0 → Wrote places into into n x
wrote_not {places = places} into n x e = record { long = refl; here = λ (f : 0 < places). absurd (omega arith) }

module _ (places : ℕ) (one other into₀ : List ℕ) where
  pub walking_start : length into₀ ≡ places → Walking places one other into₀ into₀ 0 0 0
  walking_start whole = record { walked = walk_start ltb one other; long = whole; left = λ e. refl }

  module _ (room : 0 < places → length (merged ltb one other) ≤ places) {into : List ℕ} {i j n : ℕ} (so : Walking places one other into₀ into i j n) where
    pub walking_room : 0 < places → i < length one → n < places
    walking_room e h = omega (arith, room e, so.long, so.walked.counted, length_merged ltb (drop i one) (drop j other), length-drop i one)

    walking_on : {x i' j' : ℕ} {after : List ℕ} → Turned ltb one other i j n x i' j' → Wrote places into after n x
        → Walking places one other into₀ after i' j' (n + 1)
    walking_on {x} {i'} {j'} t w = record {
      walked = t.walked;
      long = w.long ∙ so.long;
      left = λ (e : 0 < places).
          let inside : n < length into = omega (arith, so.long, room e, so.walked.counted, ap length t.here) in
          rw (w.here e) (put_at_cons into n x (merged ltb (drop i' one) (drop j' other)) inside ∙ (rw (← t.here) (so.left e)));
    }

    -- .. the keys are equal, or one is less
    module _ (h : i < length one) (some : j < length other) {after : List ℕ} (w : Wrote places into after n (min (get_or one i 0) (get_or other j 0))) where
      pub walking_both : get_or one i 0 ≡ get_or other j 0 → {i' j' : ℕ} → i' ≡ i + 1 → j' ≡ j + 1 → Walking places one other into₀ after i' j' (n + 1)
      walking_both p e f = rw (e, f) (walking_on (pass_both one other so.walked h some p) w)

      pub walking_first : get_or one i 0 < get_or other j 0 → {i' j' : ℕ} → i' ≡ i + 1 → j' ≡ j → Walking places one other into₀ after i' j' (n + 1)
      walking_first p e f = rw (e, f) (walking_on (pass_first one other so.walked h some p) w)

      pub walking_second : (get_or one i 0 ≡ get_or other j 0 → ⊥) → get_or other j 0 ≤ get_or one i 0 → {i' j' : ℕ} → i' ≡ i → j' ≡ j + 1
          → Walking places one other into₀ after i' j' (n + 1)
      walking_second p q e f = rw (e, f) (walking_on (pass_second one other so.walked h some p q) w)

    pub walking_done : (length one ≤ i) ⊎ (length other ≤ j) → OneDone places one other into₀ into (record { one = i; other = j; both = n })
    walking_done done = record {
      one_in = so.walked.left_in;
      other_in = so.walked.right_in;
      few = so.walked.few;
      long = so.long;
      counted = walk_count ltb one other so.walked done;
      rest = λ (e : 0 < places). rw (← walk_end ltb one other i j done) (so.left e);
    }

    pub walking_left : length one ≤ i → OneDone places one other into₀ into (record { one = i; other = j; both = n })
    walking_left h = walking_done (inl h)

    pub walking_right : length other ≤ j → OneDone places one other into₀ into (record { one = i; other = j; both = n })
    walking_right h = walking_done (inr h)

module _ (one other before after : List ℕ) (r : Reached) (so : OneDone limit one other before after r) (room : length (merged ltb one other) ≤ limit) where
  abbrev rest_one : List ℕ
  rest_one = take (length one - r.one) (drop r.one one)

  abbrev rest_other : List ℕ
  rest_other = take (length other - r.other) (drop r.other other)

  pub copy_one : r.both + length rest_one ≤ length after
  copy_one = omega (arith, so.counted, room, so.long, ap length (slice_rest one r.one), length-drop r.one one)

  module _ {o₁ : List ℕ} (e : o₁ ≡ put_at after r.both rest_one) where
    pub copied : {o₂ : List ℕ} → o₂ ≡ put_at o₁ (r.both + (length one - r.one)) rest_other → o₂ ≡ put_at before 0 (merged ltb one other)
    copied f =
        f
        ∙ rw (e, slice_rest one r.one, slice_rest other r.other)
        (put_at_append after r.both (drop r.one one) (drop r.other other) (length one - r.one) (length-drop r.one one)
        (omega (arith, so.counted, room, so.long))
        ∙ so.rest (lit< tt))

-- ---- merged into a third run

module _ (one other into : List ℕ) {n : ℕ} (count : n ≡ length (merged ltb one other)) (whole : length into ≡ limit) where
  pub merge_none : length into < n → into ≡ merged_in one other into
  unfolding merged_in
  merge_none h = rw (← count, lt-leb n limit (omega arith))

  pub merge_all : n ≤ length into → {after : List ℕ} → after ≡ put_at into 0 (merged ltb one other) → after ≡ merged_in one other into
  unfolding merged_in
  merge_all h e = e ∙ rw (← count, le-leb n limit (omega arith))
