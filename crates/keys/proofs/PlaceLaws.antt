-- Laws of specs/Place, what a lent run holds once something is written at a place of it: nothing written, a block right after a block in either
-- order, one element, stores one after the other; a run copied; written to the beginning; over a run of one value; and what a slice of a run holds. Assumes nothing.
use Prim.Native.Nat.{ℕ, zero, suc, ◌+◌, ◌-◌, ◌≤◌, ◌<◌}
use native.Mathlib.Nat.{add_assoc, sub-zero, zero-sub, suc-sub-suc}
use native.Mathlib.Numerals.{add-one}
use native.Mathlib.Omega.{arith}
use mathlib.Core.Path.{◌≡◌, refl, sym, ap, ◌∙◌}
use mathlib.Core.List.{List, [], ◌∷◌, ◌++◌, append_assoc}
use lib.ListN.{length, take, drop, get_or, set, replicate, length-append, length-take, length-drop, take-append-drop}
use lib.Seq.{take_all, take-take, take-suc, length-take-le, take-append-le, sets, sets-eq, set_split, drop-drop, drop-cons, set_at, take_at, drop_at, drop-append-add}
use Rattle.keys.specs.Place.{put_at}

module _ {A : Type 0} where
  pub length_put_at : (s : List A) (at : ℕ) (bs : List A) → at + length bs ≤ length s → length (put_at s at bs) ≡ length s
  unfolding put_at
  length_put_at s at bs h = rw (length-append, length-append, length-take, length-drop, length-drop) (omega arith)

  pub put_at_nil : (s : List A) (at : ℕ) → put_at s at [] ≡ s
  unfolding put_at
  put_at_nil s at = take-append-drop at s

  pub put_at_zero : (s bs : List A) → put_at s 0 bs ≡ bs ++ drop (length bs) s
  unfolding put_at
  put_at_zero s bs = refl

  -- what stands past it, by its place in the run
  pub put_at_past : (s : List A) (at : ℕ) (bs : List A) → put_at s at bs ≡ take at s ++ (bs ++ drop (at + length bs) s)
  unfolding put_at
  put_at_past s at bs = rw drop-drop

  -- a block right after a block is one block
  pub put_at_append : (s : List A) (at : ℕ) (xs ys : List A) (n : ℕ) → length xs ≡ n → at + n ≤ length s
      → put_at (put_at s at xs) (at + n) ys ≡ put_at s at (xs ++ ys)
  put_at_append s at xs ys n e h =
      let long : length (take at s ++ xs) ≡ at + n = rw (length-append, length-take, e) (omega arith) in
      let whole : take at s ++ (xs ++ drop (at + length xs) s) ≡ (take at s ++ xs) ++ drop (at + n) s = rw (e, append_assoc) in
      let front : take (at + n) (take at s ++ (xs ++ drop (at + length xs) s)) ≡ take at s ++ xs =
      rw whole (take_at (take at s ++ xs) (drop (at + n) s) (at + n) long) in
      let rest : drop (at + n + length ys) (take at s ++ (xs ++ drop (at + length xs) s)) ≡ drop (at + length (xs ++ ys)) s =
      rw (whole, ← long, drop-append-add, long, drop-drop, length-append, e, add_assoc) in
      rw (put_at_past s at xs, put_at_past, put_at_past, front, rest, append_assoc (take at s), append_assoc xs)

  -- .. and the second one may be written first
  pub put_at_behind : (s : List A) (at : ℕ) (xs ys : List A) (n : ℕ) → length xs ≡ n → at + n + length ys ≤ length s
      → put_at (put_at s (at + n) ys) at xs ≡ put_at s at (xs ++ ys)
  put_at_behind s at xs ys n e h =
      let long : length (take (at + n) s) ≡ at + n = rw length-take (omega arith) in
      let front : take at (take (at + n) s ++ (ys ++ drop (at + n + length ys) s)) ≡ take at s =
      take-append-le at (take (at + n) s) (ys ++ drop (at + n + length ys) s) (omega arith) ∙ take-take at (at + n) s (omega arith) in
      let rest : drop (at + n) (take (at + n) s ++ (ys ++ drop (at + n + length ys) s)) ≡ ys ++ drop (at + n + length ys) s =
      drop_at (take (at + n) s) (ys ++ drop (at + n + length ys) s) (at + n) long in
      let past : at + length (xs ++ ys) ≡ at + n + length ys = rw (length-append, e) (omega arith) in
      rw (put_at_past s (at + n) ys, put_at_past, put_at_past s at (xs ++ ys), e, front, rest, past, append_assoc xs)

  -- .. as code leaves it: i is the place after the first one
  pub put_at_then : (s : List A) (at i : ℕ) (a b : List A) {o₁ o₂ : List A} → i ≡ at + length a → i ≤ length s
      → o₁ ≡ put_at s at a → o₂ ≡ put_at o₁ i b → o₂ ≡ put_at s at (a ++ b)
  put_at_then s at i a b e h f g = g ∙ rw (f, e) (put_at_append s at a b (length a) refl (omega arith))

  -- four of them
  pub put_at_four_blocks : (s : List A) (at i j k : ℕ) (a b c d : List A) {o₁ o₂ o₃ o₄ : List A} → i ≡ at + length a → j ≡ i + length b → k ≡ j + length c
      → k ≤ length s → o₁ ≡ put_at s at a → o₂ ≡ put_at o₁ i b → o₃ ≡ put_at o₂ j c → o₄ ≡ put_at o₃ k d → o₄ ≡ put_at s at (a ++ (b ++ (c ++ d)))
  put_at_four_blocks s at i j k a b c d e₁ e₂ e₃ h f₁ f₂ f₃ f₄ =
      let two = put_at_then s at i a b e₁ (omega arith) f₁ f₂ in
      let three = put_at_then s at j (a ++ b) c (omega (arith, length-append a b)) (omega arith) two f₃ in
      let four = put_at_then s at k ((a ++ b) ++ c) d (omega (arith, length-append a b, length-append (a ++ b) c)) h three f₄ in
      four ∙ rw (append_assoc (a ++ b), append_assoc a)

  -- one element, and what stands right after it
  pub put_at_one : (s : List A) (at : ℕ) (b : A) → at < length s → set s at b ≡ put_at s at (b ∷ [])
  put_at_one s at b h = rw (put_at_past, add-one at) (set_split s at b h)

  -- one element more: the one past the end may be written first
  pub put_at_snoc : (s : List A) (at : ℕ) (bs : List A) (b : A) (n : ℕ) → length bs ≡ n → at + n < length s
      → put_at (set s (at + n) b) at bs ≡ put_at s at (bs ++ (b ∷ []))
  put_at_snoc s at bs b n e h = rw (put_at_one s (at + n) b h) (put_at_behind s at bs (b ∷ []) n e (omega arith))

  pub put_at_cons : (s : List A) (at : ℕ) (b : A) (bs : List A) → at < length s → put_at (set s at b) (at + 1) bs ≡ put_at s at (b ∷ bs)
  put_at_cons s at b bs h = rw put_at_one (put_at_append s at (b ∷ []) bs 1 refl (omega arith))

  -- stores one after the other
  pub sets_put_at : (s : List A) (at : ℕ) (bs : List A) → at + length bs ≤ length s → sets s at bs ≡ put_at s at bs
  sets_put_at s at bs h = rw put_at_past (sets-eq bs s at h ∙ append_assoc (take at s) bs (drop (at + length bs) s))

  -- ---- a run copied to a place, one element after the other: before the first, with one more, and when all are there

  pub copy_none : (s : List A) (at : ℕ) → s ≡ put_at s at []
  copy_none s at = sym (put_at_nil s at)

  module _ (s : List A) (at : ℕ) (run t : List A) (i : ℕ) (so : t ≡ put_at s at (take i run)) where
    pub copy_more : (d : A) → i < length run → at + length run ≤ length s → set t (at + i) (get_or run i d) ≡ put_at s at (take (i + 1) run)
    copy_more d h p =
        let n : length (take i run) ≡ i = length-take-le i run (omega arith) in
        let long : length (put_at s at (take i run)) ≡ length s = length_put_at s at (take i run) (omega arith) in
        rw so
        (put_at_one (put_at s at (take i run)) (at + i) (get_or run i d) (omega arith)
        ∙ (put_at_append s at (take i run) (get_or run i d ∷ []) i n (omega arith) ∙ rw (add-one, take-suc run i d)))

    pub copy_all : length run ≤ i → t ≡ put_at s at run
    copy_all k = so ∙ ap (put_at s at) (take_all i run k)

  -- ---- written to the beginning

  -- one element more
  pub set_front : (new lent : List A) (x : A) (n : ℕ) → length new ≡ n → n < length lent → set (put_at lent 0 new) n x ≡ put_at lent 0 (new ++ (x ∷ []))
  set_front new lent x n e h =
      let long : length (new ++ (x ∷ [])) ≡ suc n = rw (length-append, e) (omega arith) in
      rw (put_at_zero, put_at_zero, e, drop-cons lent n x h, set_at new (get_or lent n x) (drop (suc n) lent) x n e, long, append_assoc)

  -- one element of what was written, once more
  pub set_written : (xs ys lent : List A) (y x : A) (n : ℕ) → length xs ≡ n → set (put_at lent 0 (xs ++ y ∷ ys)) n x ≡ put_at lent 0 (xs ++ x ∷ ys)
  set_written xs ys lent y x n e =
      rw (put_at_zero, put_at_zero, length-append, length-append, append_assoc xs (y ∷ ys), append_assoc xs (x ∷ ys))
      (set_at xs y (ys ++ drop (length xs + suc (length ys)) lent) x n e)

  -- what was written stands in front
  pub take_front : (lent xs : List A) (n : ℕ) → length xs ≡ n → take n (put_at lent 0 xs) ≡ xs
  take_front lent xs n e = rw put_at_zero (take_at xs (drop (length xs) lent) n e)

  -- ---- over a run of one value

  pub drop_replicate : (k n : ℕ) (a : A) → drop k (replicate n a) ≡ replicate (n - k) a
  drop_replicate zero n a = rw sub-zero
  drop_replicate (suc k) zero a = rw zero-sub
  drop_replicate (suc k) (suc n) a = rw suc-sub-suc (drop_replicate k n a)

  -- what is written over a run of one value is followed by those that are left
  pub put_at_replicate : (xs : List A) (n : ℕ) (a : A) → put_at (replicate n a) 0 xs ≡ xs ++ replicate (n - length xs) a
  put_at_replicate xs n a = rw (put_at_zero, drop_replicate (length xs) n a)

-- a slice from a place on is the rest of the run
pub slice_rest : {A : Type 0} (l : List A) (n : ℕ) → take (length l - n) (drop n l) ≡ drop n l
slice_rest l n = take_all (length l - n) (drop n l) (omega (arith, length-drop n l))
