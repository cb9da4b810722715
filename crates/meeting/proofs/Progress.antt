-- A round in which no match is false brings a key across, if the stores differ (`progress`). The idea: if no store grew, every delivery left both as
-- they were; then, from the end of the run backwards, every entry that ever waited agrees with its receiver, the whole claims too, so each store has
-- all keys of the other. In order: growth by sizes; fresh entries; entries that agree; a half; a round. Assumes nothing.
use Prim.Native.Nat.{ℕ, zero, suc, ◌+◌, ◌≤◌}
use mathlib.Core.Bool.{Bool, true, false, ◌||◌, false≢true, or_assoc}
use mathlib.Core.List.{List, [], ◌∷◌, ◌++◌, Memᴰ}
use mathlib.Core.Logic.{⊎_elim}
use mathlib.Core.Path.{◌≡◌, refl, sym, ap, ◌∙◌, subst}
use native.Mathlib.Omega.{arith}
use lib.ListN.{length}
use Rattle.keys.specs.Store.{limit}
use Rattle.keys.proofs.Tests.{Order, less, equal, greater, order}
use Rattle.keys.proofs.Rising.{Rising, Sub, rising_length, rising_same, rising_ext}
use Rattle.claims.specs.declared.claim.Claim.{Claim}
use Rattle.claims.specs.Answer.{Answer}
use Rattle.claims.specs.Claim.{between, whole_claim}
use Rattle.claims.specs.Reply.{hear, reply, claims_of, false_match}
use Rattle.claims.proofs.Between.{inside, mem_between, between_mem, between_rising, mem_inside, between_sub}
use Rattle.claims.proofs.Span.{first, last, between_first_last}
use Rattle.claims.proofs.QuestionLaws.{Passes}
use Rattle.claims.proofs.ClaimLaws.{span_claim, range_claim, span_claim_range, whole_claim_span}
use Rattle.claims.proofs.ReplyLaws.{hear_rising, hear_lo, hear_hi, Answered, matched, asked, helped_one, helped_two, reply_answered, match_same}
use Rattle.rule.specs.Round.{union, End, left_end, right_end, other, Pair, pair, keys_at, Entry, entry, waits}
use Rattle.rule.specs.Round.{receiver, keys_before, delivered, answers, Line, Run, any_false, run, half, round_of}
use Rattle.rule.proofs.Pair.{other_other, keys_at_receiver, Rises, Grows, union_of, rises_pair, size, delivered_size, delivered_heard, delivered_same}
use Rattle.rule.proofs.Entry.{Sound, sound_ends, sound_cnt}
use Rattle.rule.proofs.Half.{Fine, fine_passes, fine_step, run_fine, run_grows, halfway_opening}
use Rattle.rule.proofs.Half.{opening, half_run, half_fine, half_ends, half_grows, half_union}

-- ---- growth, by sizes

pub grows_size : (p p' : Pair) → Rises p → Rises p' → Grows p p' → size p ≤ size p'
grows_size p p' r r' g =
    let a : length p.left ≤ length p'.left = rising_length p.left p'.left (r left_end) (r' left_end) (g left_end) in
    let b : length p.right ≤ length p'.right = rising_length p.right p'.right (r right_end) (r' right_end) (g right_end) in
    omega arith

pub grows_same : (p p' : Pair) → Rises p → Rises p' → Grows p p' → size p' ≤ size p → p ≡ p'
grows_same p p' r r' g h =
    let a : length p.left ≤ length p'.left = rising_length p.left p'.left (r left_end) (r' left_end) (g left_end) in
    let b : length p.right ≤ length p'.right = rising_length p.right p'.right (r right_end) (r' right_end) (g right_end) in
    let x : p.left ≡ p'.left = rising_same p.left p'.left (r left_end) (r' left_end) (g left_end) (omega arith) in
    let y : p.right ≡ p'.right = rising_same p.right p'.right (r right_end) (r' right_end) (g right_end) (omega arith) in
    λ i. record { left = x i; right = y i }

-- ---- fresh entries: what the sender held when the claim was made, it holds now

abbrev pub Fresh : Pair → Entry → Type 0
Fresh p e = e.claimed ≡ between e.claim.lo e.claim.hi (keys_at e.sender p)

pub waits_fresh : (p : Pair) (s : End) (l : List ℕ) (cs : List Claim) → l ≡ keys_at s p → (e : Entry) → Memᴰ e (waits s l cs) → Fresh p e
waits_fresh p s l [] h e m = absurd (mathlib.Core.List.Memᴰ.not-nil m)
waits_fresh p s l (c ∷ cs) h e (mathlib.Core.List.Memᴰ.head i) = subst (Fresh p) (sym i) (ap (between c.lo c.hi) h)
waits_fresh p s l (c ∷ cs) h e (mathlib.Core.List.Memᴰ.tail m) = waits_fresh p s l cs h e m

-- ---- entries that agree: the receiver holds just what the sender held

abbrev pub Agrees : Pair → Entry → Type 0
Agrees p e = e.claimed ≡ between e.claim.lo e.claim.hi (keys_before e p)

pub or_left : (a b : Bool) → (a || b) ≡ false → a ≡ false
or_left true b h = h
or_left false b h = refl

pub or_right : (a b : Bool) → (a || b) ≡ false → b ≡ false
or_right true b h = absurd (false≢true (sym h))
or_right false b h = h

-- an entry agrees where nothing was added, no match was false, and its answers agree
module _ (p : Pair) (e : Entry) (s : Sound p e) (r : Rises p) (passes : Passes e.claim) (fresh : Fresh p e)
    (heard : hear e.claim (keys_before e p) ≡ keys_before e p) (honest : false_match e.claimed e.claim (keys_before e p) ≡ false) where
  abbrev c : Claim
  c = e.claim

  abbrev k : List ℕ
  k = hear e.claim (keys_before e p)

  -- the helper's keys strictly between lo and hi are the sender's too
  agrees_helped : c.cnt ≤ length (between c.lo c.hi k) → Sub (inside c.lo c.hi k) (keys_at e.sender p) → Agrees p e
  agrees_helped h i =
      let n : c.cnt ≡ length e.claimed = sound_cnt p e s in
      let j : between c.lo c.hi k ≡ e.claimed
      = rising_same (between c.lo c.hi k) e.claimed (between_rising c.lo c.hi k (hear_rising c (keys_before e p) (r (receiver e)))) s.rises
      (λ x m. within x (between_mem c.lo c.hi k x m) (order c.lo x) (order x c.hi)) (omega arith) in
      sym j ∙ ap (between c.lo c.hi) heard
    where
      within : (x : ℕ) → Memᴰ x k × (c.lo ≤ x) × (x ≤ c.hi) → Order c.lo x → Order x c.hi → Memᴰ x e.claimed
      within x t (less a) (less b) =
          subst (λ (l : List ℕ). Memᴰ x l) (sym fresh)
          (mem_between c.lo c.hi (keys_at e.sender p) x (i x (mem_inside c.lo c.hi k x t.0 a b)) t.1 t.2)
      within x t (less a) (equal b) = mathlib.Core.List.Memᴰ.cast b (sound_ends p e s c.hi (mathlib.Core.List.Memᴰ.tail (mathlib.Core.List.Memᴰ.head refl)))
      within x t (less a) (greater b) = absurd (omega (arith, t.2))
      within x t (equal a) b = mathlib.Core.List.Memᴰ.cast (sym a) (sound_ends p e s c.lo (mathlib.Core.List.Memᴰ.head refl))
      within x t (greater a) b = absurd (omega (arith, t.1))

  -- a claim of a part of the helper's keys that agrees: the sender has that part
  part_sub : (y : List ℕ) (d : Claim) → d ≡ span_claim y → y ≡ between (first y) (last y) k → Agrees p (entry (receiver e) k d) → Sub y (keys_at e.sender p)
  part_sub y d i w a x m =
      let b : between (first y) (last y) k ≡ between (first y) (last y) (keys_at (other (receiver e)) p)
      = subst (λ (z : Claim). Agrees p (entry (receiver e) k z)) i a in
      let n : Memᴰ x (between (first y) (last y) (keys_at (other (receiver e)) p)) = subst (λ (l : List ℕ). Memᴰ x l) (w ∙ b) m in
      subst (λ (t : End). Memᴰ x (keys_at t p)) (other_other e.sender) (between_sub (first y) (last y) (keys_at (other (receiver e)) p) x n)

  agrees_from : (a : Answer) → reply c (keys_before e p) ≡ a → Answered c k a →
      ((x : Entry) → Memᴰ x (waits (receiver e) k (claims_of a)) → Agrees p x) → Agrees p e
  agrees_from _ q (matched i) f = match_same e.claimed c (keys_before e p) honest q ∙ ap (between c.lo c.hi) heard
  agrees_from _ q (asked {d = d} i g) f =
      let t : d ≡ range_claim c.lo c.hi k
      = i ∙ span_claim_range c.lo c.hi k (hear_rising c (keys_before e p) (r (receiver e))) passes.ordered (hear_lo c (keys_before e p))
      (hear_hi c (keys_before e p)) in
      let a : between c.lo c.hi k ≡ between c.lo c.hi (keys_at (other (receiver e)) p)
      = subst (λ (z : Claim). Agrees p (entry (receiver e) k z)) t (f (entry (receiver e) k d) (mathlib.Core.List.Memᴰ.head refl)) in
      let b : between c.lo c.hi k ≡ e.claimed = a ∙ ap (λ (x : End). between c.lo c.hi (keys_at x p)) (other_other e.sender) ∙ sym fresh in
      let n : c.cnt ≡ length e.claimed = sound_cnt p e s in
      let l : length (between c.lo c.hi k) ≡ length e.claimed = ap length b in
      absurd (omega arith)
  agrees_from _ q (helped_one {d = d} g o i t) f =
      agrees_helped g (part_sub (inside c.lo c.hi k) d i t.whole (f (entry (receiver e) k d) (mathlib.Core.List.Memᴰ.head refl)))
  agrees_from _ q (helped_two {d = d} {e = d'} y z g o i j x t v w) f =
      agrees_helped g
      (λ n m.
      ⊎_elim
      {C = Memᴰ n (keys_at e.sender p)}
      (part_sub y d i t.whole (f (entry (receiver e) k d) (mathlib.Core.List.Memᴰ.head refl)) n)
      (part_sub z d' j v.whole (f (entry (receiver e) k d') (mathlib.Core.List.Memᴰ.tail (mathlib.Core.List.Memᴰ.head refl))) n)
      (mathlib.Core.List.Memᴰ.append_cases y (subst (λ (l : List ℕ). Memᴰ n l) x m)))

-- one delivery that added nothing: what waited agrees if what waits after it does
agrees_step : (u : List ℕ) (p : Pair) (e : Entry) (q : List Entry) → Fine u p (e ∷ q) → ((x : Entry) → Memᴰ x (e ∷ q) → Fresh p x) →
    size (delivered e p) ≤ size p →
    false_match e.claimed e.claim (keys_before e p) ≡ false →
    (((x : Entry) → Memᴰ x (q ++ answers e p) → Fresh (delivered e p) x) → (x : Entry) → Memᴰ x (q ++ answers e p) → Agrees (delivered e p) x) →
    (x : Entry) → Memᴰ x (e ∷ q) → Agrees p x
agrees_step u p e q f fresh still honest below = go
  where
    s : Sound p e
    s = f.sound e (mathlib.Core.List.Memᴰ.head refl)

    same : delivered e p ≡ p
    same = delivered_same e p f.rises still

    l : List ℕ
    l = hear e.claim (keys_before e p)

    heard : l ≡ keys_before e p
    heard = delivered_heard e p f.rises still

    passes : Passes e.claim
    passes = fine_passes u p e q f

    fresh' : (x : Entry) → Memᴰ x (q ++ answers e p) → Fresh (delivered e p) x
    fresh' x m =
        ⊎_elim
        {C = Fresh (delivered e p) x}
        (λ (i : Memᴰ x q). subst (λ (y : Pair). Fresh y x) (sym same) (fresh x (mathlib.Core.List.Memᴰ.tail i)))
        (λ (i : Memᴰ x (answers e p)).
        waits_fresh (delivered e p) (receiver e) l (claims_of (reply e.claim (keys_before e p))) (sym (keys_at_receiver e p)) x i)
        (mathlib.Core.List.Memᴰ.append_cases q m)

    agrees' : (x : Entry) → Memᴰ x (q ++ answers e p) → Agrees p x
    agrees' x m = subst (λ (y : Pair). Agrees y x) same (below fresh' x m)

    go : (x : Entry) → Memᴰ x (e ∷ q) → Agrees p x
    go x (mathlib.Core.List.Memᴰ.head i) =
        subst (Agrees p) (sym i)
        (agrees_from p e s f.rises passes (fresh e (mathlib.Core.List.Memᴰ.head refl)) heard honest (reply e.claim (keys_before e p)) refl
        (reply_answered e.claim (keys_before e p) (f.rises (receiver e)) passes)
        (λ y m. agrees' y (mathlib.Core.List.Memᴰ.append_right q m)))
    go x (mathlib.Core.List.Memᴰ.tail m) = agrees' x (mathlib.Core.List.Memᴰ.append_left (answers e p) m)

-- where a run ends, no match in it is false and nothing grows, all that ever waited agrees
pub run_agrees : (n : ℕ) (u : List ℕ) (p : Pair) (q : List Entry) → Fine u p q → ((e : Entry) → Memᴰ e q → Fresh p e) → (run n p q).waiting ≡ [] →
    any_false (run n p q).lines ≡ false → size (run n p q).stores ≤ size p → (e : Entry) → Memᴰ e q → Agrees p e
unfolding run
run_agrees zero u p q f fresh ends honest h = λ e m. absurd (mathlib.Core.List.Memᴰ.not-nil (subst (λ (x : List Entry). Memᴰ e x) ends m))
run_agrees (suc n) u p [] f fresh ends honest h = λ e m. absurd (mathlib.Core.List.Memᴰ.not-nil m)
run_agrees (suc n) u p (e ∷ q) f fresh ends honest h =
    let p' : Pair = delivered e p in
    let q' : List Entry = q ++ answers e p in
    let f' : Fine u p' q' = fine_step u p e q f in
    let here : Bool = false_match e.claimed e.claim (keys_before e p) in
    let grew : size p ≤ size p' = delivered_size e p in
    let grew' : size p' ≤ size (run n p' q').stores = grows_size p' (run n p' q').stores f'.rises (run_fine n u p' q' f').rises (run_grows n p' q') in
    agrees_step u p e q f fresh (omega arith) (or_left here (any_false (run n p' q').lines) honest)
    (λ fresh'. run_agrees n u p' q' f' fresh' ends (or_right here (any_false (run n p' q').lines) honest) (omega arith))

-- ---- a half

-- one end has all keys of the other after a half in which no match is false and nothing grows
pub half_sub : (s : End) (p : Pair) → Rises p → length (union_of p) ≤ limit → any_false (half s p).lines ≡ false → size (half s p).stores ≤ size p →
    Sub (keys_at s p) (keys_at (other s) p)
half_sub s p r h honest still =
    whole (keys_at s p) (r s)
    (run_agrees (length (union_of p)) (union_of p) p (opening s p) (halfway_opening s p r h).fine (waits_fresh p s (keys_at s p) (whole_claim (keys_at s p)) refl)
    (subst (λ (x : Run). x.waiting ≡ []) (half_run s p) (half_ends s p r h))
    (subst (λ (x : Run). any_false x.lines ≡ false) (half_run s p) honest)
    (subst (λ (x : Run). size x.stores ≤ size p) (half_run s p) still))
  where
    whole : (l : List ℕ) → Rising l → ((e : Entry) → Memᴰ e (waits s l (whole_claim l)) → Agrees p e) → Sub l (keys_at (other s) p)
    whole [] rl f x m = absurd (mathlib.Core.List.Memᴰ.not-nil m)
    whole (k ∷ ks) rl f x m =
        let l : List ℕ = k ∷ ks in
        let i : waits s l (whole_claim l) ≡ entry s l (span_claim l) ∷ [] = ap (waits s l) (whole_claim_span l (omega arith)) in
        let a : between (first l) (last l) l ≡ between (first l) (last l) (keys_at (other s) p)
        = f (entry s l (span_claim l)) (subst (λ (y : List Entry). Memᴰ (entry s l (span_claim l)) y) (sym i) (mathlib.Core.List.Memᴰ.head refl)) in
        between_sub (first l) (last l) (keys_at (other s) p) x (subst (λ (y : List ℕ). Memᴰ x y) (sym (between_first_last l rl) ∙ a) m)

-- ---- a round

any_false_append : (a b : List Line) → any_false (a ++ b) ≡ (any_false a || any_false b)
any_false_append [] b = refl
any_false_append (x ∷ xs) b = ap (λ (t : Bool). x.is_false || t) (any_false_append xs b) ∙ sym (or_assoc x.is_false (any_false xs) (any_false b))

pub progress : (l r : List ℕ) → Rising l → Rising r → length (union l r) ≤ limit → any_false (round_of l r).lines ≡ false →
    size (round_of l r).stores ≤ length l + length r → l ≡ r
unfolding round_of
progress l r rl rr h honest still =
    let p : Pair = pair l r in
    let rp : Rises p = rises_pair l r rl rr in
    let p' : Pair = (half left_end p).stores in
    let rp' : Rises p' = (half_fine left_end p rp h).rises in
    let h' : length (union_of p') ≤ limit = subst (λ (u : List ℕ). length u ≤ limit) (sym (half_union left_end p rp h)) h in
    let rp'' : Rises (half right_end p').stores = (half_fine right_end p' rp' h').rises in
    let grew : size p ≤ size p' = grows_size p p' rp rp' (half_grows left_end p) in
    let grew' : size p' ≤ size (half right_end p').stores = grows_size p' (half right_end p').stores rp' rp'' (half_grows right_end p') in
    let same : p ≡ p' = grows_same p p' rp rp' (half_grows left_end p) (omega arith) in
    let first : Bool = any_false (half left_end p).lines in
    let second : Bool = any_false (half right_end p').lines in
    let none : (first || second) ≡ false = sym (any_false_append (half left_end p).lines (half right_end p').lines) ∙ honest in
    let a : Sub l r = half_sub left_end p rp h (or_left first second none) (omega arith) in
    let b : Sub p'.right p'.left = half_sub right_end p' rp' h' (or_right first second none) (omega arith) in
    rising_ext l r rl rr a (subst (λ (x : Pair). Sub x.right x.left) (sym same) b)
