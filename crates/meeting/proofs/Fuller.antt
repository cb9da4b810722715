-- Where one of two stores has all keys of the other, a round makes them equal, whatever matches (`round_fuller`). The idea: a key that the fuller end has is
-- held by the other end, or lies in the range of something that waits; every delivery keeps this, and at the end nothing waits. In order: the fuller end; a
-- half in which one end has all keys; a key on its way; one delivery; a run; a half; a round; the call. Assumes nothing.
use Prim.Native.Nat.{ℕ, zero, suc, ◌≤◌, ◌<◌}
use mathlib.Core.List.{List, [], ◌∷◌, ◌++◌, Memᴰ}
use mathlib.Core.Logic.{◌⊎◌, inl, inr, ⊎_elim}
use mathlib.Core.Path.{◌≡◌, refl, sym, ap, ◌∙◌, subst}
use native.Mathlib.Omega.{arith}
use lib.ListN.{length}
use Rattle.keys.specs.declared.store.Store.{Store}
use Rattle.keys.specs.Store.{limit, keys_of, store_of}
use Rattle.keys.proofs.Tests.{Order, less, equal, greater, order}
use Rattle.keys.proofs.Rising.{Rising, Sub, sub_refl, mem_length, rising_same, rising_ext}
use Rattle.keys.proofs.StoreLaws.{in_order_rising}
use Rattle.claims.specs.declared.claim.Claim.{Claim}
use Rattle.claims.specs.Answer.{Answer}
use Rattle.claims.specs.Claim.{between, whole_claim}
use Rattle.claims.specs.Reply.{adding, hear, reply, claims_of}
use Rattle.claims.proofs.Between.{inside, mem_between, between_rising, mem_inside, between_sub, sub_between}
use Rattle.claims.proofs.Span.{first, last, first_le, le_last, first_between, last_between}
use Rattle.claims.proofs.QuestionLaws.{Passes}
use Rattle.claims.proofs.ClaimLaws.{span_claim}
use Rattle.claims.proofs.ReplyLaws.{hear_rising, hear_lo, hear_hi, hear_held, hear_sub}
use Rattle.claims.proofs.ReplyLaws.{Answered, matched, asked, helped_one, helped_two, Part, reply_answered}
use Rattle.rule.specs.Round.{union, End, left_end, right_end, other, Pair, pair, keys_at, Entry, entry, waits}
use Rattle.rule.specs.Round.{receiver, keys_before, delivered, answers, Run, run, half, round_of}
use Rattle.rule.specs.Call.{met}
use Rattle.rule.proofs.Union.{union_is, union_left, union_right}
use Rattle.rule.proofs.Pair.{Rises, union_of, rises_pair, other_other, holding_each, keys_at_receiver, delivered_grows}
use Rattle.rule.proofs.Entry.{Sound, sound_ends, sound_cnt, sound_within, sound_sub_between}
use Rattle.rule.proofs.Deliver.{adding_within}
use Rattle.rule.proofs.Half.{Fine, fine_passes, fine_step, halfway_opening, opening, opening_some, half_run, half_fine, half_ends, half_union}
use Rattle.rule.proofs.RoundLaws.{round_of_halves}
use Rattle.rule.proofs.CallLaws.{RoundYes, round_questions_yes, met_zero, met_done}
use Rattle.meeting.specs.Opening.{OneHasAll, BothHold}
use Rattle.meeting.proofs.Progress.{waits_fresh}

-- ---- the fuller end

-- the end s has all keys that the other one has
abbrev pub Fuller : End → Pair → Type 0
Fuller s p = Sub (keys_at (other s) p) (keys_at s p)

pub fuller_union : (s : End) (p : Pair) → Rises p → Fuller s p → keys_at s p ≡ union_of p
fuller_union left_end p r f =
    sym (union_is p.left p.right p.left (r right_end) (r left_end) (sub_refl p.left) f (union_left p.left p.right))
fuller_union right_end p r f =
    sym (union_is p.left p.right p.right (r right_end) (r right_end) f (sub_refl p.right) (union_right p.left p.right))

ends_two : (s t : End) → (t ≡ s) ⊎ (t ≡ other s)
ends_two left_end left_end = inl refl
ends_two left_end right_end = inr refl
ends_two right_end left_end = inr refl
ends_two right_end right_end = inl refl

-- ---- a half in which one end has all keys

-- at any time in it: the end s has all keys of u, and each of its claims that wait tells what it has
record Flow (s : End) (u : List ℕ) (p : Pair) (q : List Entry) : Type 0 where
  fine : Fine u p q
  full : keys_at s p ≡ u
  fresh : (e : Entry) → Memᴰ e q → e.sender ≡ s → e.claimed ≡ between e.claim.lo e.claim.hi u

-- what comes to the full end adds nothing
flow_heard : (s : End) (u : List ℕ) (p : Pair) (e : Entry) (q : List Entry) → Flow s u p (e ∷ q) → receiver e ≡ s → hear e.claim (keys_before e p) ≡ u
flow_heard s u p e q f z =
    let i : keys_before e p ≡ u = ap (λ (t : End). keys_at t p) z ∙ f.full in
    let a : Sub (adding e.claim (keys_before e p)) u = adding_within u p e (f.fine.sound e (mathlib.Core.List.Memᴰ.head refl)) f.fine.within in
    hear_held e.claim (keys_before e p) (f.fine.rises (receiver e)) (subst (λ (l : List ℕ). Sub (adding e.claim (keys_before e p)) l) (sym i) a) ∙ i

flow_step : (s : End) (u : List ℕ) (p : Pair) (e : Entry) (q : List Entry) → Flow s u p (e ∷ q) → Flow s u (delivered e p) (q ++ answers e p)
flow_step s u p e q f = record { fine = fine_step u p e q f.fine; full = full' s refl; fresh = fresh' }
  where
    k : List ℕ
    k = hear e.claim (keys_before e p)

    full' : (t : End) → t ≡ s → keys_at t (delivered e p) ≡ u
    full' =
        holding_each (λ (t : End) (l : List ℕ). t ≡ s → l ≡ u) (receiver e) k p (λ z. flow_heard s u p e q f z)
        (λ t z. ap (λ (y : End). keys_at y p) z ∙ f.full)

    fresh' : (x : Entry) → Memᴰ x (q ++ answers e p) → x.sender ≡ s → x.claimed ≡ between x.claim.lo x.claim.hi u
    fresh' x m z =
        ⊎_elim
        {C = x.claimed ≡ between x.claim.lo x.claim.hi u}
        (λ (i : Memᴰ x q). f.fresh x (mathlib.Core.List.Memᴰ.tail i) z)
        (λ (i : Memᴰ x (answers e p)).
        waits_fresh (delivered e p) (receiver e) k (claims_of (reply e.claim (keys_before e p))) (sym (keys_at_receiver e p)) x i
        ∙ ap (between x.claim.lo x.claim.hi) (full' x.sender z))
        (mathlib.Core.List.Memᴰ.append_cases q m)

-- ---- a key on its way

-- x lies in the range of something that waits
abbrev Told : ℕ → List Entry → Type 0
Told x q = (e : Entry) × Memᴰ e q × (e.claim.lo ≤ x) × (x ≤ e.claim.hi)

-- the end that is not s has the key x, or something that waits tells of it
abbrev Reaches : End → ℕ → Pair → List Entry → Type 0
Reaches s x p q = Memᴰ x (keys_at (other s) p) ⊎ Told x q

told_append : (x : ℕ) (q r : List Entry) → Told x r → Told x (q ++ r)
told_append x q r (e, m, a, b) = (e, mathlib.Core.List.Memᴰ.append_right q m, a, b)

-- ---- one delivery: a key x of the fuller end, in the range of the claim that is delivered

module _ (s : End) (u : List ℕ) (p : Pair) (e : Entry) (q : List Entry) (flow : Flow s u p (e ∷ q)) (x : ℕ) (here : Memᴰ x u)
    (from-lo : e.claim.lo ≤ x) (to-hi : x ≤ e.claim.hi) where
  abbrev c : Claim
  c = e.claim

  abbrev k : List ℕ
  k = hear e.claim (keys_before e p)

  -- the keys of u and of the receiver in that range
  abbrev uᶜ : List ℕ
  uᶜ = between e.claim.lo e.claim.hi u

  abbrev kᶜ : List ℕ
  kᶜ = between e.claim.lo e.claim.hi k

  abbrev Next : List Entry → Type 0
  Next w = Reaches s x (delivered e p) w

  sound : Sound p e
  sound = flow.fine.sound e (mathlib.Core.List.Memᴰ.head refl)

  passes : Passes c
  passes = fine_passes u p e q flow.fine

  k_rises : Rising k
  k_rises = hear_rising c (keys_before e p) (flow.fine.rises (receiver e))

  uᶜ_rises : Rising uᶜ
  uᶜ_rises = between_rising c.lo c.hi u flow.fine.whole

  x_uᶜ : Memᴰ x uᶜ
  x_uᶜ = mem_between c.lo c.hi u x here from-lo to-hi

  k_u : Sub k u
  k_u = hear_sub c (keys_before e p) u (adding_within u p e sound flow.fine.within) (flow.fine.within (receiver e))

  -- an ask has the same range
  again : (d : Claim) → d ≡ span_claim kᶜ → Next (waits (receiver e) k (d ∷ []))
  again d i =
      let a : d.lo ≡ c.lo = ap (λ (z : Claim). z.lo) i ∙ first_between c.lo c.hi k k_rises passes.ordered (hear_lo c (keys_before e p)) in
      let b : d.hi ≡ c.hi = ap (λ (z : Claim). z.hi) i ∙ last_between c.lo c.hi k k_rises passes.ordered (hear_hi c (keys_before e p)) in
      inr (entry (receiver e) k d, mathlib.Core.List.Memᴰ.head refl, omega arith, omega arith)

  -- a claim of the fuller end: a receiver that counts as many has them all
  came : e.sender ≡ s → c.cnt ≤ length kᶜ → (w : List Entry) → Next w
  came z g w =
      let n : c.cnt ≡ length uᶜ = sound_cnt p e sound ∙ ap length (flow.fresh e (mathlib.Core.List.Memᴰ.head refl) z) in
      let same : kᶜ ≡ uᶜ
      = rising_same kᶜ uᶜ (between_rising c.lo c.hi k k_rises) uᶜ_rises (sub_between c.lo c.hi k u k_u) (omega arith) in
      let m : Memᴰ x k = between_sub c.lo c.hi k x (subst (λ (l : List ℕ). Memᴰ x l) (sym same) x_uᶜ) in
      inl
      (subst (λ (t : End). Memᴰ x (keys_at t (delivered e p))) (ap other z)
      (subst (λ (l : List ℕ). Memᴰ x l) (sym (keys_at_receiver e p)) m))

  from_fuller : e.sender ≡ s → (a : Answer) → Answered c k a → Next (waits (receiver e) k (claims_of a))
  from_fuller z _ (matched i) = came z (let n : length kᶜ ≡ c.cnt = ap (λ (d : Claim). d.cnt) i in omega arith) []
  from_fuller z _ (asked {d = d} i g) = again d i
  from_fuller z _ (helped_one {d = d} g o i t) = came z g (waits (receiver e) k (d ∷ []))
  from_fuller z _ (helped_two {d = d} {e = d'} y w g o i j h t v b) = came z g (waits (receiver e) k (d ∷ d' ∷ []))

  -- a claim of the other end, which holds what it claimed; the fuller end had it all
  module _ (z : e.sender ≡ other s) where
    kept : Memᴰ x e.claimed → (w : List Entry) → Next w
    kept m w = inl (delivered_grows e p (other s) x (subst (λ (t : End). Memᴰ x (keys_at t p)) z (sound.there x m)))

    k_is : k ≡ u
    k_is = flow_heard s u p e q flow (ap other z ∙ other_other s)

    -- a match: as many were claimed as the fuller end has, so all were
    alike : length kᶜ ≡ c.cnt → Next []
    alike n =
        let n' : length kᶜ ≡ length uᶜ = ap (λ (l : List ℕ). length (between c.lo c.hi l)) k_is in
        let same : e.claimed ≡ uᶜ
        = rising_same e.claimed uᶜ sound.rises uᶜ_rises (sound_sub_between p e u sound (sound_within u p e sound flow.fine.within))
        (omega (arith, sound_cnt p e sound)) in
        kept (subst (λ (l : List ℕ). Memᴰ x l) (sym same) x_uᶜ) []

    -- a help tells of what lies strictly between lo and hi, and these two were claimed
    helps : (w : List Entry) → (Memᴰ x (inside c.lo c.hi k) → Told x w) → Next w
    helps w tells = go (order c.lo x) (order x c.hi)
      where
        go : Order c.lo x → Order x c.hi → Next w
        go (less a) (less b) = inr (tells (mem_inside c.lo c.hi k x (subst (λ (l : List ℕ). Memᴰ x l) (sym k_is) here) a b))
        go (less a) (equal b) = kept (mathlib.Core.List.Memᴰ.cast b (sound_ends p e sound c.hi (mathlib.Core.List.Memᴰ.tail (mathlib.Core.List.Memᴰ.head refl)))) w
        go (equal a) b = kept (mathlib.Core.List.Memᴰ.cast (sym a) (sound_ends p e sound c.lo (mathlib.Core.List.Memᴰ.head refl))) w
        go (less a) (greater b) = absurd (omega arith)
        go (greater a) b = absurd (omega arith)

    -- by the claim of a part of these
    part_told : (y : List ℕ) (d : Claim) → d ≡ span_claim y → Part c.lo c.hi k y → Memᴰ x y → (d.lo ≤ x) × (x ≤ d.hi)
    part_told y d i t m =
        let r : Rising y = subst Rising (sym t.whole) (between_rising (first y) (last y) k k_rises) in
        let a : d.lo ≡ first y = ap (λ (v : Claim). v.lo) i in
        let b : d.hi ≡ last y = ap (λ (v : Claim). v.hi) i in
        (omega (arith, first_le y r x m), omega (arith, le_last y r x m))

    from_other : (a : Answer) → Answered c k a → Next (waits (receiver e) k (claims_of a))
    from_other _ (matched i) = alike (ap (λ (d : Claim). d.cnt) i)
    from_other _ (asked {d = d} i g) = again d i
    from_other _ (helped_one {d = d} g o i t) =
        helps (waits (receiver e) k (d ∷ []))
        (λ m. let n = part_told (inside c.lo c.hi k) d i t m in (entry (receiver e) k d, mathlib.Core.List.Memᴰ.head refl, n.0, n.1))
    from_other _ (helped_two {d = d} {e = d'} y w g o i j h t v b) =
        helps (waits (receiver e) k (d ∷ d' ∷ []))
        (λ m.
        ⊎_elim
        {C = Told x (waits (receiver e) k (d ∷ d' ∷ []))}
        (λ (l : Memᴰ x y). let n = part_told y d i t l in (entry (receiver e) k d, mathlib.Core.List.Memᴰ.head refl, n.0, n.1))
        (λ (l : Memᴰ x w). let n = part_told w d' j v l in (entry (receiver e) k d', mathlib.Core.List.Memᴰ.tail (mathlib.Core.List.Memᴰ.head refl), n.0, n.1))
        (mathlib.Core.List.Memᴰ.append_cases y (subst (λ (l : List ℕ). Memᴰ x l) h m)))

  reaches_step : Next (answers e p)
  reaches_step =
      let a : Answer = reply c (keys_before e p) in
      let v : Answered c k a = reply_answered c (keys_before e p) (flow.fine.rises (receiver e)) passes in
      ⊎_elim
      {C = Next (answers e p)}
      (λ (z : e.sender ≡ s). from_fuller z a v)
      (λ (z : e.sender ≡ other s). from_other z a v)
      (ends_two s e.sender)

-- ---- a run

run_reaches : (n : ℕ) (s : End) (u : List ℕ) (p : Pair) (q : List Entry) (x : ℕ) → Flow s u p q → Memᴰ x u → Reaches s x p q →
    Reaches s x (run n p q).stores (run n p q).waiting
unfolding run
run_reaches zero s u p q x f here r = r
run_reaches (suc n) s u p [] x f here r = r
run_reaches (suc n) s u p (e ∷ q) x f here r =
    run_reaches n s u (delivered e p) (q ++ answers e p) x (flow_step s u p e q f) here (next r)
  where
    now : e.claim.lo ≤ x → x ≤ e.claim.hi → Reaches s x (delivered e p) (q ++ answers e p)
    now a b =
        ⊎_elim
        {C = Reaches s x (delivered e p) (q ++ answers e p)}
        (λ (m : Memᴰ x (keys_at (other s) (delivered e p))). inl m)
        (λ (t : Told x (answers e p)). inr (told_append x q (answers e p) t))
        (reaches_step s u p e q f x here a b)

    next : Reaches s x p (e ∷ q) → Reaches s x (delivered e p) (q ++ answers e p)
    next (inl m) = inl (delivered_grows e p (other s) x m)
    next (inr (y, mathlib.Core.List.Memᴰ.head i, a, b)) = now (subst (λ (z : Entry). z.claim.lo ≤ x) i a) (subst (λ (z : Entry). x ≤ z.claim.hi) i b)
    next (inr (y, mathlib.Core.List.Memᴰ.tail m, a, b)) = inr (y, mathlib.Core.List.Memᴰ.append_left (answers e p) m, a, b)

run_full : (n : ℕ) (s : End) (u : List ℕ) (p : Pair) (q : List Entry) → Flow s u p q → keys_at s (run n p q).stores ≡ u
unfolding run
run_full zero s u p q f = f.full
run_full (suc n) s u p [] f = f.full
run_full (suc n) s u p (e ∷ q) f = run_full n s u (delivered e p) (q ++ answers e p) (flow_step s u p e q f)

-- ---- a half, opened by either end t

module _ (s : End) (p : Pair) (rises : Rises p) (fits : length (union_of p) ≤ limit) (fuller : Fuller s p) where
  abbrev u : List ℕ
  u = union_of p

  full : keys_at s p ≡ u
  full = fuller_union s p rises fuller

  flow_opening : (t : End) → Flow s u p (opening t p)
  flow_opening t = record {
    fine = (halfway_opening t p rises fits).fine;
    full = full;
    fresh =
        λ e m z.
        waits_fresh p t (keys_at t p) (whole_claim (keys_at t p)) refl e m
        ∙ ap (between e.claim.lo e.claim.hi) (ap (λ (y : End). keys_at y p) z ∙ full);
  }

  -- the fuller end has all keys still
  pub half_full : (t : End) → keys_at s (half t p).stores ≡ union_of p
  half_full t = subst (λ (y : Run). keys_at s y.stores ≡ u) (sym (half_run t p)) (run_full (length u) s u p (opening t p) (flow_opening t))

  -- a key within the range of the opening claim is at the other end afterwards
  pub half_reaches : (t : End) (x : ℕ) → Memᴰ x (union_of p) → 0 < length (keys_at t p) → first (keys_at t p) ≤ x → x ≤ last (keys_at t p) →
      Memᴰ x (keys_at (other s) (half t p).stores)
  half_reaches t x here some a b = done (subst (λ (y : Run). Reaches s x y.stores y.waiting) (sym (half_run t p)) reached)
    where
      l : List ℕ
      l = keys_at t p

      reached : Reaches s x (run (length u) p (opening t p)).stores (run (length u) p (opening t p)).waiting
      reached =
          run_reaches (length u) s u p (opening t p) x (flow_opening t) here
          (inr (entry t l (span_claim l), subst (λ (y : List Entry). Memᴰ (entry t l (span_claim l)) y) (sym (opening_some t p some)) (mathlib.Core.List.Memᴰ.head refl), a, b))

      done : Reaches s x (half t p).stores (half t p).waiting → Memᴰ x (keys_at (other s) (half t p).stores)
      done (inl m) = m
      done (inr (e, m, c, d)) = absurd (mathlib.Core.List.Memᴰ.not-nil (subst (λ (y : List Entry). Memᴰ e y) (half_ends t p rises fits) m))

  -- opened by the fuller end: both ends have all keys then
  other_filled : keys_at (other s) (half s p).stores ≡ u
  other_filled =
      rising_ext (keys_at (other s) (half s p).stores) u ((half_fine s p rises fits).rises (other s)) (subst Rising full (rises s))
      ((half_fine s p rises fits).within (other s))
      (λ x m.
      let n : Memᴰ x (keys_at s p) = subst (λ (l : List ℕ). Memᴰ x l) (sym full) m in
      half_reaches s x m (mem_length (keys_at s p) x n) (first_le (keys_at s p) (rises s) x n) (le_last (keys_at s p) (rises s) x n))

  pub half_fills : (t : End) → keys_at t (half s p).stores ≡ union_of p
  half_fills t =
      ⊎_elim
      {C = keys_at t (half s p).stores ≡ u}
      (λ (z : t ≡ s). subst (λ (y : End). keys_at y (half s p).stores ≡ u) (sym z) (half_full s))
      (λ (z : t ≡ other s). subst (λ (y : End). keys_at y (half s p).stores ≡ u) (sym z) other_filled)
      (ends_two s t)

-- ---- a round

-- the right end is the fuller one once the left one's half is done
right_fuller : (s : End) (p : Pair) → Rises p → length (union_of p) ≤ limit → Fuller s p → Fuller right_end (half left_end p).stores
right_fuller left_end p r h f x m =
    subst (λ (l : List ℕ). Memᴰ x l) (half_fills left_end p r h f left_end ∙ sym (half_fills left_end p r h f right_end)) m
right_fuller right_end p r h f x m =
    subst (λ (l : List ℕ). Memᴰ x l) (sym (half_full right_end p r h f left_end)) ((half_fine left_end p r h).within left_end x m)

round_filled : (s : End) (l r : List ℕ) → Rising l → Rising r → length (union l r) ≤ limit → Fuller s (pair l r) →
    (round_of l r).stores ≡ pair (union l r) (union l r)
round_filled s l r rl rr h f =
    subst (λ (x : Run). x.stores ≡ pair (union l r) (union l r)) (sym (round_of_halves l r)) (λ i. record { left = both left_end i; right = both right_end i })
  where
    p : Pair
    p = pair l r

    rp : Rises p
    rp = rises_pair l r rl rr

    p' : Pair
    p' = (half left_end p).stores

    same : union_of p' ≡ union l r
    same = half_union left_end p rp h

    both : (t : End) → keys_at t (half right_end p').stores ≡ union l r
    both t =
        half_fills right_end p' (half_fine left_end p rp h).rises (subst (λ (v : List ℕ). length v ≤ limit) (sym same) h) (right_fuller s p rp h f) t ∙ same

-- Two stores, of which one has all keys of the other: after one round both have the keys of both, whatever matched.
pub round_fuller : (l r : List ℕ) → Rising l → Rising r → length (union l r) ≤ limit → OneHasAll l r →
    (round_of l r).stores ≡ pair (union l r) (union l r)
round_fuller l r rl rr h (inl f) = round_filled left_end l r rl rr h f
round_fuller l r rl rr h (inr f) = round_filled right_end l r rl rr h f

-- .. and as the call
pub met_fuller : (s t : Store) (records : ℕ) → OneHasAll (keys_of s) (keys_of t) → (met s t records).number ≡ 0 →
    BothHold (union (keys_of s) (keys_of t)) (met s t records)
met_fuller s t n f z =
    let yes = met_zero s t n z in
    let y : RoundYes s t n = round_questions_yes s t n yes in
    let e = round_fuller (keys_of s) (keys_of t) (in_order_rising s y.left) (in_order_rising t y.right) y.fits f in
    rw (met_done s t n yes) (record { left = ap (λ (p : Pair). store_of p.left) e; right = ap (λ (p : Pair). store_of p.right) e })
