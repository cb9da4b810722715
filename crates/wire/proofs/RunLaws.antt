-- Laws of things in bytes, one after the other, over how one of them lies in bytes: one more at the end, there and back.
-- Then that keys and claims lie in bytes faithfully. Assumes nothing.
use Prim.Native.Nat.{ℕ, zero, suc, ◌+◌, ◌*◌, ◌^◌, ◌≤◌, ◌<◌}
use native.Mathlib.Nat.{mul-suc, mul-zero, mul-le-mul_left}
use native.Mathlib.Numerals.{add-one}
use native.Mathlib.Omega.{arith}
use mathlib.Core.Path.{◌≡◌, refl, ap, sym, subst, ◌∙◌}
use mathlib.Core.List.Memᴰ
use mathlib.Core.List.{List, [], ◌∷◌, ◌++◌, append_assoc, append-nil, Memᴰ}
use lib.Dec.{lit≤}
use lib.ListN.{length, take, drop, get_or, set, replicate, length-append, length-drop, drop_of_length-le}
use lib.Seq.{drop-drop, take_all, take-add, take-suc, length-take-le, drop_at}
use Rattle.keys.specs.Place.{put_at}
use Rattle.keys.proofs.PlaceLaws.{put_at_zero, put_at_append, set_front}
use Rattle.wire.specs.Number.{byte, Below}
use Rattle.wire.specs.Claim.{key_width, ClaimFits}
use Rattle.wire.specs.Run.{Layout, key, claim, read_run, write_run, Each}
use Rattle.wire.specs.Lengths.{length_bytes, length_claim_bytes}
use Rattle.wire.proofs.NumberLaws.{below_drop, number_at_bytes, bytes_number_at, number_at_below}
use Rattle.wire.proofs.ClaimLaws.{claim_from_claim_bytes, claim_bytes_claim_from, claim_from_fits}

-- What makes a layout faithful for the things that fit: as many bytes as it says, read again as written, written again as read.
pub record Faithful {A : Type 0} (l : Layout A) (Fit : A → Type 0) : Type 0 where
  pub long : (x : A) → length (l.write x) ≡ l.size
  pub back : (x : A) → Fit x → (rest : List ℕ) → l.read (l.write x ++ rest) ≡ x
  pub again : (bs : List ℕ) → Below byte bs → l.size ≤ length bs → l.write (l.read bs) ≡ take l.size bs
  pub fits : (bs : List ℕ) → Below byte bs → Fit (l.read bs)

pub key_faithful : Faithful key (λ (k : ℕ). k < byte ^ key_width)
key_faithful =
    record {
      long = length_bytes key_width;
      back = λ k f rest. number_at_bytes key_width k rest f;
      again = λ bs h p. bytes_number_at bs 0 key_width h p;
      fits = λ bs h. number_at_below bs 0 key_width key_width (lit≤ tt) h;
    }

pub claim_faithful : Faithful claim ClaimFits
claim_faithful = record { long = length_claim_bytes; back = claim_from_claim_bytes; again = claim_bytes_claim_from; fits = claim_from_fits }

-- ---- each of some things

-- by its members
pub each_mem : {A : Type 0} (P : A → Type 0) (xs : List A) → ((x : A) → Memᴰ x xs → P x) → Each P xs
each_mem P [] f = tt
each_mem P (x ∷ xs) f = (f x (Memᴰ.head refl), each_mem P xs (λ y m. f y (Memᴰ.tail m)))

pub mem_each : {A : Type 0} (P : A → Type 0) (xs : List A) → Each P xs → (x : A) → Memᴰ x xs → P x
mem_each P [] e x m = absurd (Memᴰ.not-nil m)
mem_each P (y ∷ ys) e x (Memᴰ.head p) = subst P (sym p) e.0
mem_each P (y ∷ ys) e x (Memᴰ.tail m) = mem_each P ys e.1 x m

pub each_append : {A : Type 0} (P : A → Type 0) (xs ys : List A) → Each P xs → Each P ys → Each P (xs ++ ys)
each_append P [] ys e f = f
each_append P (x ∷ xs) ys e f = (e.0, each_append P xs ys e.1 f)

pub each_replicate : {A : Type 0} (P : A → Type 0) (n : ℕ) (x : A) → P x → Each P (replicate n x)
each_replicate P zero x p = tt
each_replicate P (suc n) x p = (p, each_replicate P n x p)

-- the first things of a list are as the list's things are
pub each_take : {A : Type 0} (P : A → Type 0) (n : ℕ) (xs : List A) → Each P xs → Each P (take n xs)
each_take P zero [] f = tt
each_take P zero (x ∷ xs) f = tt
each_take P (suc n) [] f = tt
each_take P (suc n) (x ∷ xs) f = (f.0, each_take P n xs f.1)

size_suc : (m n : ℕ) → m * suc n ≡ m + m * n
size_suc m n = rw mul-suc (omega arith)

module _ {A : Type 0} (l : Layout A) where
  pub length_read_run : (n : ℕ) (bs : List ℕ) → length (read_run l n bs) ≡ n
  length_read_run zero bs = refl
  length_read_run (suc n) bs = ap suc (length_read_run n (drop l.size bs))

  read_run_suc : (n : ℕ) (bs : List ℕ) → read_run l (suc n) bs ≡ read_run l n bs ++ (l.read (drop (l.size * n) bs) ∷ [])
  read_run_suc zero bs = rw mul-zero
  read_run_suc (suc n) bs =
      let e : drop (l.size * n) (drop l.size bs) ≡ drop (l.size * suc n) bs = rw (drop-drop, size_suc) in
      ap (λ (xs : List A). l.read bs ∷ xs) (rw e at (read_run_suc n (drop l.size bs)))

  -- the turn of reading: one thing more at the end
  pub read_run_snoc : (n : ℕ) (bs : List ℕ) → read_run l (n + 1) bs ≡ read_run l n bs ++ (l.read (drop (l.size * n) bs) ∷ [])
  read_run_snoc n bs = rw add-one (read_run_suc n bs)

  -- the turn of reading into a run of places: x is what stands at the next place of the bytes
  pub set_read_run : (lent : List A) (bs : List ℕ) (at i : ℕ) {out : List A} {x : A} → i < length lent
      → out ≡ put_at lent 0 (read_run l i (drop at bs)) → x ≡ l.read (drop (at + l.size * i) bs)
      → set out i x ≡ put_at lent 0 (read_run l (i + 1) (drop at bs))
  set_read_run lent bs at i {out} {x} h e f =
      let g : x ≡ l.read (drop (l.size * i) (drop at bs)) = rw drop-drop f in
      let more = read_run_snoc i (drop at bs) in
      rw (more, e, g) (set_front (read_run l i (drop at bs)) lent _ i (length_read_run i (drop at bs)) h)

  -- .. and its end, where all places are written
  pub end_read_run : (lent : List A) (bs : List ℕ) (at i : ℕ) {out : List A} → i ≤ length lent → length lent ≤ i
      → out ≡ put_at lent 0 (read_run l i (drop at bs)) → out ≡ read_run l (length lent) (drop at bs)
  end_read_run lent bs at i p q e =
      let same : i ≡ length lent = omega arith in
      let all = read_run l (length lent) (drop at bs) in
      let none : drop (length all) lent ≡ [] = drop_of_length-le lent (omega (arith, length_read_run (length lent) (drop at bs))) in
      e ∙ rw (same, put_at_zero lent all, none, append-nil)

  -- the turn of writing: one thing more at the end
  pub write_run_snoc : (xs : List A) (x : A) → write_run l (xs ++ (x ∷ [])) ≡ write_run l xs ++ l.write x
  write_run_snoc [] x = append-nil (l.write x)
  write_run_snoc (y ∷ xs) x = rw (write_run_snoc xs x, append_assoc)

-- what is written of things that lie in as many bytes as their layout says
module _ {A : Type 0} (l : Layout A) (long : (x : A) → length (l.write x) ≡ l.size) where
  pub length_written : (xs : List A) → length (write_run l xs) ≡ l.size * length xs
  length_written [] = rw mul-zero
  length_written (x ∷ xs) = rw (length-append, long x, length_written xs, size_suc)

  -- the turn of writing at a place: one thing more, right after those before it
  pub put_at_write_run : (s : List ℕ) (at i : ℕ) (xs : List A) {x : A} {out new : List ℕ} → i < length xs → at + l.size * length xs ≤ length s
      → out ≡ put_at s at (write_run l (take i xs)) → x ≡ get_or xs i x → new ≡ put_at out (at + l.size * i) (l.write x)
      → new ≡ put_at s at (write_run l (take (i + 1) xs))
  put_at_write_run s at i xs {x} {out} h p e is f =
      let size : length (write_run l (take i xs)) ≡ l.size * i = rw (length_written, length-take-le i xs (omega arith)) in
      let more : write_run l (take (i + 1) xs) ≡ write_run l (take i xs) ++ l.write x = rw (add-one, take-suc xs i x h, ← is, write_run_snoc) in
      let room : at + l.size * i ≤ length s = omega (arith, mul-le-mul_left l.size (let q : i ≤ length xs = omega arith in q)) in
      f ∙ rw (more, e) (put_at_append s at (write_run l (take i xs)) (l.write x) (l.size * i) size room)

  -- .. and its end
  pub end_write_run : (s : List ℕ) (at i : ℕ) (xs : List A) {out : List ℕ} → length xs ≤ i
      → out ≡ put_at s at (write_run l (take i xs)) → out ≡ put_at s at (write_run l xs)
  end_write_run s at i xs q e = e ∙ rw (take_all i xs q)

module _ {A : Type 0} {l : Layout A} {Fit : A → Type 0} (faith : Faithful l Fit) where
  pub length_write_run : (xs : List A) → length (write_run l xs) ≡ l.size * length xs
  length_write_run = length_written l faith.long

  pub read_run_write_run : (xs : List A) → Each Fit xs → (rest : List ℕ) → read_run l (length xs) (write_run l xs ++ rest) ≡ xs
  read_run_write_run [] f rest = refl
  read_run_write_run (x ∷ xs) f rest =
      let e : (l.write x ++ write_run l xs) ++ rest ≡ l.write x ++ (write_run l xs ++ rest) = append_assoc (l.write x) (write_run l xs) rest in
      let p : l.read ((l.write x ++ write_run l xs) ++ rest) ≡ x = rw e (faith.back x f.0 (write_run l xs ++ rest)) in
      let q : read_run l (length xs) (drop l.size ((l.write x ++ write_run l xs) ++ rest)) ≡ xs =
      rw (e, drop_at (l.write x) (write_run l xs ++ rest) l.size (faith.long x)) (read_run_write_run xs f.1 rest) in
      λ i. p i ∷ q i

  pub write_run_read_run : (n : ℕ) (bs : List ℕ) → Below byte bs → l.size * n ≤ length bs → write_run l (read_run l n bs) ≡ take (l.size * n) bs
  write_run_read_run zero bs h p = rw mul-zero
  write_run_read_run (suc n) bs h p =
      let q : l.size + l.size * n ≤ length bs = rw size_suc at p in
      let r : l.size * n ≤ length (drop l.size bs) = rw length-drop (omega arith) in
      rw (size_suc, take-add l.size (l.size * n) bs, faith.again bs h (omega arith), write_run_read_run n (drop l.size bs) (below_drop l.size bs h) r)

  pub read_run_fits : (n : ℕ) (bs : List ℕ) → Below byte bs → Each Fit (read_run l n bs)
  read_run_fits zero bs h = tt
  read_run_fits (suc n) bs h = (faith.fits bs h, read_run_fits n (drop l.size bs) (below_drop l.size bs h))
