-- A round: `round_of` of Round, both halves (`rounded`). Of rising stores whose union a store can hold: both rise, grow within the union and have the
-- same union as before; nothing waits at the end, and there were at most twice as many deliveries as the union has keys. Assumes nothing.
use Prim.Native.Nat.{ℕ, ◌*◌, ◌≤◌}
use mathlib.Core.List.{List, []}
use mathlib.Core.Path.{◌≡◌, refl, sym, ◌∙◌, subst}
use native.Mathlib.Omega.{arith}
use lib.ListN.{length, length-append}
use Rattle.keys.specs.Store.{limit}
use Rattle.keys.proofs.Rising.{Rising, rising_length}
use Rattle.rule.specs.Round.{union, End, left_end, right_end, Pair, pair, keys_at, Run, half, followed, round_of}
use Rattle.rule.proofs.Pair.{Rises, Within, Grows, grows_trans, union_of, rises_pair}
use Rattle.rule.proofs.Half.{Fine, half_fine, half_ends, length_half, half_grows, half_union}

pub round_of_halves : (l r : List ℕ) → round_of l r ≡ followed (half left_end (pair l r)) (half right_end (half left_end (pair l r)).stores)
unfolding round_of
round_of_halves l r = refl

-- what a round of l and r came to
pub record RoundedBy (l r : List ℕ) (x : Run) : Type 0 where
  pub rises : Rises x.stores
  pub within : Within x.stores (union l r)
  pub fits : (s : End) → length (keys_at s x.stores) ≤ limit
  pub grown : Grows (pair l r) x.stores
  pub same_union : union_of x.stores ≡ union l r
  pub ends : x.waiting ≡ []
  pub bound : length x.lines ≤ 2 * length (union l r)

abbrev pub Rounded : List ℕ → List ℕ → Type 0
Rounded l r = RoundedBy l r (round_of l r)

pub rounded : (l r : List ℕ) → Rising l → Rising r → length (union l r) ≤ limit → Rounded l r
rounded l r rl rr h =
    let p : Pair = pair l r in
    let rp : Rises p = rises_pair l r rl rr in
    let p' : Pair = (half left_end p).stores in
    let u : union_of p' ≡ union_of p = half_union left_end p rp h in
    let rp' : Rises p' = (half_fine left_end p rp h).rises in
    let h' : length (union_of p') ≤ limit = subst (λ (v : List ℕ). length v ≤ limit) (sym u) h in
    let f : Fine (union_of p') (half right_end p').stores (half right_end p').waiting = half_fine right_end p' rp' h' in
    let a : length (half left_end p).lines ≤ length (union_of p) = length_half left_end p rp h in
    let b : length (half right_end p').lines ≤ length (union_of p)
    = subst (λ (v : List ℕ). length (half right_end p').lines ≤ length v) u (length_half right_end p' rp' h') in
    subst (RoundedBy l r) (sym (round_of_halves l r)) (record {
      rises = f.rises;
      within = subst (λ (v : List ℕ). Within (half right_end p').stores v) u f.within;
      fits = λ s.
          let c : length (keys_at s (half right_end p').stores) ≤ length (union_of p')
          = rising_length (keys_at s (half right_end p').stores) (union_of p') (f.rises s) f.whole (f.within s) in
          omega arith;
      grown = grows_trans p p' (half right_end p').stores (half_grows left_end p) (half_grows right_end p');
      same_union = half_union right_end p' rp' h' ∙ u;
      ends = rw (half_ends left_end p rp h, half_ends right_end p' rp' h');
      bound = rw (length-append (half left_end p).lines (half right_end p').lines) (omega arith);
    })
