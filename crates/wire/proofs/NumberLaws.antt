-- Laws of numbers in bytes, over the width: one law each for reading and for writing, and that they undo each other.
-- Order: what a list below a bound keeps; a number is below its width's power; there and back; at a place; in a word of 8 bytes. Assumes nothing.
use Prim.Native.Nat.{ℕ, zero, suc, ◌+◌, ◌-◌, ◌*◌, ◌/◌, ◌%◌, ◌^◌, ◌≤◌, ◌<◌}
use native.Mathlib.Nat.{pow-succ', mul_assoc, mod-eq_of_lt, add-mul-div_right, add-mul-mod_self_right, add_comm}
use native.Mathlib.Nat.{lt_of_lt_of_le, pow-le-pow_right, zero-add, suc-add}
use native.Mathlib.Omega.{arith}
use mathlib.Core.Path.{◌≡◌, refl, ap, sym, ◌∙◌}
use mathlib.Core.List.{List, [], ◌∷◌, ◌++◌, append-nil}
use lib.Arith.{digits_lt, digits_div, mod-mul}
use lib.Dec.{lit<}
use lib.ListN.{length, take, drop, replicate, length-append, length-take, length-drop, length-replicate, drop_of_length-le}
use lib.Seq.{take_all, drop-drop, get_or-drop, take_at, drop-append-add}
use borrow.Rule.Slice.PartMut.{put_mid}
use Rattle.std.specs.Int.{w64, bytes_high_first, to_be_bytes, from_be_bytes}
use Rattle.std.proofs.lemmas.List.{take-replicate}
use Rattle.std.proofs.lemmas.Nat.{be_bytes_8}
use Rattle.keys.specs.Place.{put_at}
use Rattle.wire.specs.Claim.{key_width}
use Rattle.wire.specs.Lengths.{length_bytes}
use Rattle.wire.specs.Number.{byte, number, bytes, number_at, Below}

-- ---- lists below a bound

pub below_drop : {m : ℕ} (n : ℕ) (l : List ℕ) → Below m l → Below m (drop n l)
below_drop n l h i = rw get_or-drop (h (n + i))

pub below_take : {m : ℕ} (n : ℕ) (l : List ℕ) → 0 < m → Below m l → Below m (take n l)
below_take zero [] p h i = p
below_take zero (x ∷ l) p h i = p
below_take (suc n) [] p h i = p
below_take (suc n) (x ∷ l) p h zero = h zero
below_take (suc n) (x ∷ l) p h (suc i) = below_take n l p (λ (j : ℕ). h (suc j)) i

-- ---- a number is below its width's power

pub number_below : (bs : List ℕ) → Below byte bs → number bs < byte ^ length bs
unfolding number
number_below [] h = lit< tt
number_below (b ∷ bs) h = rw pow-succ' (digits_lt (h zero) (number_below bs (λ (i : ℕ). h (suc i))))

-- ---- there and back

pow_byte_pos : (w : ℕ) → 0 < byte ^ w
pow_byte_pos zero = lit< tt
pow_byte_pos (suc w) = rw pow-succ' (let h : 0 < byte ^ w = pow_byte_pos w in omega arith)

number_bytes_mod : (w n : ℕ) → number (bytes w n) ≡ n % byte ^ w
unfolding number bytes
number_bytes_mod zero n = omega arith
number_bytes_mod (suc w) n =
    let e : n / byte ^ w % byte * byte ^ length (bytes w n) + number (bytes w n) ≡ n % byte ^ suc w =
    rw (length_bytes, number_bytes_mod w n, pow-succ', mod-mul n {m = byte} {c = byte ^ w} (lit< tt) (pow_byte_pos w)) in
    e

-- what is written is read again
pub number_bytes : (w n : ℕ) → n < byte ^ w → number (bytes w n) ≡ n
number_bytes w n h = number_bytes_mod w n ∙ mod-eq_of_lt h

-- what stands above the width is not written
bytes_above : (w k n : ℕ) → bytes w (n + k * byte ^ w) ≡ bytes w n
unfolding bytes
bytes_above zero k n = refl
bytes_above (suc w) k n =
    let e : k * byte ^ suc w ≡ k * byte * byte ^ w = rw (pow-succ', mul_assoc) in
    let p : (n + k * byte ^ suc w) / byte ^ w % byte ≡ n / byte ^ w % byte = rw (e, add-mul-div_right n (k * byte) (pow_byte_pos w), add-mul-mod_self_right) in
    let q : bytes w (n + k * byte ^ suc w) ≡ bytes w n = rw e (bytes_above w (k * byte) n) in
    λ i. p i ∷ q i

-- what is read is written again
pub bytes_number : (bs : List ℕ) → Below byte bs → bytes (length bs) (number bs) ≡ bs
unfolding number bytes
bytes_number [] h = refl
bytes_number (b ∷ bs) h =
    let m : number bs < byte ^ length bs = number_below bs (λ (i : ℕ). h (suc i)) in
    let p : (b * byte ^ length bs + number bs) / byte ^ length bs % byte ≡ b = rw (digits_div b m) (mod-eq_of_lt (h zero)) in
    let q : bytes (length bs) (b * byte ^ length bs + number bs) ≡ bs =
    rw add_comm (bytes_above (length bs) b (number bs) ∙ bytes_number bs (λ (i : ℕ). h (suc i))) in
    λ i. p i ∷ q i

-- ---- a number at a place

pub number_at_below : (s : List ℕ) (at w v : ℕ) → w ≤ v → Below byte s → number_at s at w < byte ^ v
number_at_below s at w v p h =
    let q : length (take w (drop at s)) ≤ v = rw length-take (omega arith) in
    lt_of_lt_of_le (number_below (take w (drop at s)) (below_take w (drop at s) (lit< tt) (below_drop at s h))) (pow-le-pow_right (lit< tt) q)

-- a place counted from another place
pub number_at_drop : (s : List ℕ) (at k w : ℕ) → number_at (drop at s) k w ≡ number_at s (at + k) w
number_at_drop s at k w = rw drop-drop

-- a place past the first bytes
pub number_at_skip : (xs ys : List ℕ) (m k w : ℕ) → length xs ≡ m → number_at (xs ++ ys) (m + k) w ≡ number_at ys k w
number_at_skip xs ys m k w e = rw (← e, drop-append-add)

-- what is written is read again, whatever follows it
pub number_at_bytes : (w n : ℕ) (rest : List ℕ) → n < byte ^ w → number_at (bytes w n ++ rest) 0 w ≡ n
number_at_bytes w n rest h = rw (take_at (bytes w n) rest w (length_bytes w n)) (number_bytes w n h)

-- what is read is written again
pub bytes_number_at : (s : List ℕ) (at w : ℕ) → Below byte s → at + w ≤ length s → bytes w (number_at s at w) ≡ take w (drop at s)
bytes_number_at s at w h p =
    let e : length (take w (drop at s)) ≡ w = rw (length-take, length-drop) (omega arith) in
    rw e at (bytes_number (take w (drop at s)) (below_take w (drop at s) (lit< tt) (below_drop at s h)))

-- ---- a number in a word of 8 bytes, which std writes and reads

-- what std writes is its 8 bytes
bytes_high_first_bytes : (w n : ℕ) → bytes_high_first w n ≡ bytes w n
unfolding bytes
bytes_high_first_bytes zero n = refl
bytes_high_first_bytes (suc zero) n = let e : n % byte ≡ n / 1 % byte = omega arith in ap (λ (b : ℕ). b ∷ []) e
bytes_high_first_bytes (suc (suc w)) n = ap (λ (bs : List ℕ). n / byte ^ suc w % byte ∷ bs) (bytes_high_first_bytes (suc w) n)

-- what std reads of 8 bytes is their number
number_word : (bs : List ℕ) {n : ℕ} → length bs ≡ key_width → Below byte bs → n < byte ^ key_width → n ≡ from_be_bytes w64 bs → n ≡ number bs
number_word bs {n} long h fits e =
    let back : bytes key_width n ≡ bs = sym (bytes_high_first_bytes key_width n) ∙ be_bytes_8 bs n long h e in
    sym (number_bytes key_width n fits) ∙ ap number back

-- the lowest bytes of a number are its last ones
drop_bytes : (k w n : ℕ) → drop k (bytes (k + w) n) ≡ bytes w n
unfolding bytes
drop_bytes zero w n = rw zero-add
drop_bytes (suc k) w n = rw suc-add (drop_bytes k w n)

-- zeros before a number don't change it
number_zeros : (k : ℕ) (bs : List ℕ) → number (replicate k 0 ++ bs) ≡ number bs
unfolding number
number_zeros zero bs = refl
number_zeros (suc k) bs = let e = number_zeros k bs in omega arith

below_zeros : {m : ℕ} (k : ℕ) (bs : List ℕ) → 0 < m → Below m bs → Below m (replicate k 0 ++ bs)
below_zeros zero bs p h i = h i
below_zeros (suc k) bs p h zero = p
below_zeros (suc k) bs p h (suc i) = below_zeros k bs p h i

module _ (s : List ℕ) (at w : ℕ) (few : w ≤ key_width) where
  -- a word of zeros, but for the bytes of a place at its end, is the number there
  pub word_number_at : {n : ℕ} {new : List ℕ} → at + w ≤ length s → Below byte s → new ≡ take (at + w - at) (drop at s) → n < byte ^ key_width
      → n ≡ from_be_bytes w64 (put_mid (key_width - w) (key_width - (key_width - w)) (replicate key_width 0) new) → n ≡ number_at s at w
  word_number_at {n} {new} room h copied fits read =
      let bs = take w (drop at s) in
      let same : new ≡ bs = let e : at + w - at ≡ w = omega arith in copied ∙ rw e in
      let long : length bs ≡ w = rw (length-take, length-drop) (omega arith) in
      let zeros : List ℕ = replicate key_width 0 in
      let front : take (key_width - w) zeros ≡ replicate (key_width - w) 0 = take-replicate (key_width - w) key_width 0 (omega arith) in
      let none : drop (key_width - (key_width - w)) (drop (key_width - w) zeros) ≡ [] =
      drop-drop (key_width - (key_width - w)) (key_width - w) zeros ∙ drop_of_length-le zeros (omega arith) in
      let word : put_mid (key_width - w) (key_width - (key_width - w)) (replicate key_width 0) new ≡ replicate (key_width - w) 0 ++ bs =
      (λ i. front i ++ (same i ++ none i)) ∙ ap (λ (l : List ℕ). replicate (key_width - w) 0 ++ l) (append-nil bs) in
      let whole : length (replicate (key_width - w) 0 ++ bs) ≡ key_width = rw (length-append, length-replicate, long) (omega arith) in
      let small = below_zeros (key_width - w) bs (lit< tt) (below_take w (drop at s) (lit< tt) (below_drop at s h)) in
      number_word (replicate (key_width - w) 0 ++ bs) whole small fits (read ∙ ap (from_be_bytes w64) word) ∙ number_zeros (key_width - w) bs

  -- the last bytes of a word at a place are the bytes of a number
  pub put_at_word : (x : ℕ) {word new : List ℕ} → word ≡ to_be_bytes w64 x → new ≡ take (key_width - (key_width - w)) (drop (key_width - w) word)
      → put_mid at (at + w - at) s new ≡ put_at s at (bytes w x)
  unfolding put_at
  put_at_word x {word} {new} told copied =
      let e : key_width - (key_width - w) ≡ w = omega arith in
      let f : at + w - at ≡ w = omega arith in
      let g : key_width - w + w ≡ key_width = omega arith in
      let last : drop (key_width - w) word ≡ bytes w x =
      ap (drop (key_width - w)) (told ∙ bytes_high_first_bytes key_width x) ∙ (rw g at (drop_bytes (key_width - w) w x)) in
      let same : new ≡ bytes w x = copied ∙ rw (e, last) (take_all w (bytes w x) (omega (arith, length_bytes w x))) in
      rw (same, f, length_bytes)
