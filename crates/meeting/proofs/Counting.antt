-- How many deliveries follow from what waits, where one end has all keys of the other. In order: a pair with a full end; what waits costs (`cost`), and what a
-- claim of the full end costs (`count`); what the claims of a help cost (`Helped`); a claim of the other end which comes to the full one, that has more
-- (`helping`); a half. What waits has disjoint ranges, so costs add up at the same pair of stores (`run_all_sum`). Not here: a claim of the full end
-- (Claiming). Assumes nothing.
use Prim.Native.Nat.{ℕ, suc, ◌+◌, ◌-◌, ◌/◌, ◌≤◌, ◌<◌}
use mathlib.Core.Bool.{Bool, true, false, cond}
use mathlib.Core.List.Memᴰ
use mathlib.Core.List.{List, [], ◌∷◌, ◌++◌, Memᴰ, append-nil}
use mathlib.Core.Path.{◌≡◌, refl, sym, ap, ◌∙◌, subst}
use native.Mathlib.Omega.{arith}
use borrow.Author.Tests.{ltb-true, ltb-false}
use lib.Dec.{ltb}
use lib.ListN.{length, take, drop, length-drop, take-append-drop}
use lib.Seq.{length-take-le}
use Rattle.keys.specs.Store.{limit}
use Rattle.keys.proofs.Tests.{Order, less, equal, greater, order}
use Rattle.keys.proofs.Rising.{Rising, Sub, sub_refl}
use Rattle.claims.specs.declared.claim.Claim.{Claim}
use Rattle.claims.specs.Answer.{Answer}
use Rattle.claims.specs.Answer.{One, Two}
use Rattle.claims.specs.Claim.{between, whole_claim}
use Rattle.claims.specs.Reply.{adding, hear, answer, reply, claims_of}
use Rattle.claims.proofs.Between.{inside, between_one, length_between_inside}
use Rattle.claims.proofs.Span.{first, last, mem_first, mem_last}
use Rattle.claims.proofs.Stretch.{Stretch, stretch_sub, stretch_part, stretch_inside}
use Rattle.claims.proofs.QuestionLaws.{Passes}
use Rattle.claims.proofs.ClaimLaws.{span_claim}
use Rattle.claims.proofs.ReplyLaws.{hear_held, help_by}
use Rattle.claims.proofs.CountLaws.{answer_help}
use Rattle.rule.specs.Round.{End, other, Pair, keys_at, holding, Entry, entry, waits, receiver, keys_before, delivered, answers, Run, run_all, half}
use Rattle.rule.proofs.Pair.{Rises, Within, union_of, other_other, holding_same}
use Rattle.rule.proofs.Entry.{Sound, sound_entry, sound_limit}
use Rattle.rule.proofs.Deliver.{adding_within}
use Rattle.rule.proofs.Half.{Halfway, halfway_step, halfway_alone, run_all_nil, run_all_cons, opening_some, half_opening}
use Rattle.meeting.proofs.Sum.{Pairwise, pairwise_step, run_all_sum}
use Rattle.meeting.proofs.Fuller.{fuller_union}

-- ---- a pair with a full end: s has all keys of u, and the other end no more
pub record FullEnd (s : End) (u : List ℕ) (p : Pair) : Type 0 where
  pub whole : Rising u
  pub fits : length u ≤ limit
  pub rises : Rises p
  pub full : keys_at s p ≡ u
  pub within : Within p u

full_end_union : (s : End) (u : List ℕ) (p : Pair) → FullEnd s u p → union_of p ≡ u
full_end_union s u p y =
    sym (fuller_union s p y.rises (λ x m. subst (λ (l : List ℕ). Memᴰ x l) (sym y.full) (y.within (other s) x m))) ∙ y.full

-- one sound claim that waits alone
pub full_end_halfway : (s : End) (u : List ℕ) (p : Pair) (e : Entry) → FullEnd s u p → Sound p e → Halfway p (e ∷ [])
full_end_halfway s u p e y = halfway_alone p e y.rises (subst (λ (l : List ℕ). length l ≤ limit) (sym (full_end_union s u p y)) y.fits)

-- ---- costs

-- the deliveries that follow from what waits ..
abbrev pub cost : Pair → List Entry → ℕ
cost p q = length (run_all p q).lines

-- .. and from the full end's claim of the keys w
abbrev pub count : End → List ℕ → Pair → List ℕ → ℕ
count s u p w = cost p (entry s u (span_claim w) ∷ [])

-- What the claims of a help cost, of the keys m strictly between lo and hi, where f tells what the claim of some keys costs: one claim of at most three
-- keys, or two, cut as document 01 cuts them.
pub data Helped (u m : List ℕ) (f : List ℕ → ℕ) : ℕ → Type 0 where
  one : length m ≤ 3 → Stretch u m → Helped u m f (f m)
  two : (y z : List ℕ) → m ≡ y ++ z → 4 ≤ length m → length y ≡ length m / 2 + 1 → Stretch u y → Stretch u z → Helped u m f (f y + f z)

helped : (s : End) (u : List ℕ) (p : Pair) (m : List ℕ) → FullEnd s u p → Stretch u m → Halfway p (waits s u (claims_of (help_by m))) →
    Pairwise (waits s u (claims_of (help_by m))) → Helped u m (count s u p) (cost p (waits s u (claims_of (help_by m))))
helped s u p m y t h w = go (ltb (length m - 1) 3) refl h w
  where
    z : ℕ
    z = length m / 2 + 1

    -- what waits then
    told : Bool → List Entry
    told b = waits s u (claims_of (cond b (One (span_claim m)) (Two (span_claim (take z m)) (span_claim (drop z m)))))

    go : (b : Bool) → ltb (length m - 1) 3 ≡ b → Halfway p (told b) → Pairwise (told b) → Helped u m (count s u p) (cost p (told b))
    go true e h' w' = one (omega (arith, ltb-true (length m - 1) 3 e)) t
    go false e h' w' =
        let long : 3 ≤ length m - 1 = ltb-false (length m - 1) 3 e in
        let n : length (take z m) ≡ z = length-take-le z m (omega arith) in
        let n' : length (drop z m) ≡ length m - z = length-drop z m in
        let j : m ≡ take z m ++ drop z m = sym (take-append-drop z m) in
        let a : Stretch u (take z m) = stretch_part u m [] (take z m) (drop z m) y.whole t j (omega arith) in
        let b : Stretch u (drop z m)
        = stretch_part u m (take z m) (drop z m) [] y.whole t (j ∙ ap (λ (l : List ℕ). take z m ++ l) (sym (append-nil (drop z m)))) (omega arith) in
        subst (Helped u m (count s u p))
        (sym (run_all_sum p (entry s u (span_claim (take z m)) ∷ []) (entry s u (span_claim (drop z m)) ∷ []) h' w'))
        (two (take z m) (drop z m) j (omega arith) n a b)

-- ---- a claim of the other end, of the stretch w of its keys k, comes to the full end, which has more: it helps

module _ (s : End) (u : List ℕ) (p : Pair) (y : FullEnd s u p) (k w : List ℕ) (mine : k ≡ keys_at (other s) p) (t : Stretch k w)
    (fewer : length w < length (between (first w) (last w) u)) where
  abbrev c : Claim
  c = span_claim w

  abbrev a : Entry
  a = entry (other s) k c

  abbrev m : List ℕ
  m = inside (first w) (last w) u

  k_u : Sub k u
  k_u = subst (λ (l : List ℕ). Sub l u) (sym mine) (y.within (other s))

  sound : Sound p a
  sound =
      sound_entry p (other s) k w (subst Rising (sym mine) (y.rises (other s))) (subst (λ (l : List ℕ). Sub k l) mine (sub_refl k)) t.some t.whole

  way : Halfway p (a ∷ [])
  way = full_end_halfway s u p a y sound

  passes : Passes c
  passes = sound_limit p a u sound y.within y.whole y.fits

  lo_u : Memᴰ c.lo u
  lo_u = k_u (first w) (stretch_sub k w t (first w) (mem_first w t.some))

  hi_u : Memᴰ c.hi u
  hi_u = k_u (last w) (stretch_sub k w t (last w) (mem_last w t.some))

  -- nothing is added ..
  keys_u : keys_before a p ≡ u
  keys_u = ap (λ (x : End). keys_at x p) (other_other s) ∙ y.full

  heard : hear c (keys_before a p) ≡ keys_before a p
  heard =
      hear_held c (keys_before a p) (y.rises (receiver a))
      (subst (λ (l : List ℕ). Sub (adding c (keys_before a p)) l) (sym keys_u) (adding_within u p a sound y.within))

  still : delivered a p ≡ p
  still = ap (λ (l : List ℕ). holding (receiver a) l p) heard ∙ holding_same (receiver a) p

  -- .. and what waits then are the claims of the help
  told : answers a p ≡ waits s u (claims_of (help_by m))
  told =
      ap (λ (x : End). waits x (hear c (keys_before a p)) (claims_of (reply c (keys_before a p)))) (other_other s)
      ∙ ap (λ (l : List ℕ). waits s l (claims_of (answer c l))) (heard ∙ keys_u)
      ∙ ap (λ (x : Answer). waits s u (claims_of x)) (answer_help c u y.whole passes lo_u hi_u fewer)

  -- more than one key is claimed: of one key there is just one
  apart : first w < last w
  apart = go (order (first w) (last w))
    where
      go : Order (first w) (last w) → first w < last w
      go (less h) = h
      go (equal e) =
          let n : length (between (first w) (last w) u) ≡ 1
          = ap (λ (x : ℕ). length (between (first w) x u)) (sym e) ∙ ap length (between_one (first w) u y.whole lo_u) in
          absurd (omega (arith, fewer, t.some))
      go (greater h) = absurd (omega (arith, passes.ordered))

  inner : length (between (first w) (last w) u) ≡ length m + 2
  inner = length_between_inside (first w) (last w) u y.whole apart lo_u hi_u

  inner_stretch : Stretch u m
  inner_stretch = stretch_inside u (first w) (last w) y.whole apart lo_u hi_u (omega (arith, fewer, inner, (passes.several apart).0))

  pub helping : (n : ℕ) × (cost p (entry (other s) k (span_claim w) ∷ []) ≡ suc n)
      × (length (between (first w) (last w) u) ≡ length (inside (first w) (last w) u) + 2) × Helped u (inside (first w) (last w) u) (count s u p) n
  helping = (
    cost p (waits s u (claims_of (help_by m))),
    ap (λ (x : Run). length x.lines) (run_all_cons p a [] way) ∙ ap suc (ap (λ (x : Pair). cost x (answers a p)) still ∙ ap (cost p) told),
    inner,
    helped s u p m y inner_stretch
        (subst (λ (q : List Entry). Halfway p q) told (subst (λ (x : Pair). Halfway x (answers a p)) still (halfway_step p a [] way)))
        (subst (λ (q : List Entry). Pairwise q) told (pairwise_step (union_of p) p a [] way.fine (λ f i. absurd (Memᴰ.not-nil i), tt))),
  )

-- ---- a half costs what the claim costs that opens it ..

pub half_cost : (t : End) (p : Pair) → 0 < length (keys_at t p) → length (half t p).lines ≡ cost p (entry t (keys_at t p) (span_claim (keys_at t p)) ∷ [])
half_cost t p some = ap (λ (x : Run). length x.lines) (half_opening t p) ∙ ap (cost p) (opening_some t p some)

-- .. and nothing where its end has no key
pub half_none : (t : End) (p : Pair) → keys_at t p ≡ [] → half t p ≡ record { stores = p; lines = []; waiting = [] }
half_none t p none = half_opening t p ∙ (ap (λ (l : List ℕ). run_all p (waits t l (whole_claim l))) none ∙ run_all_nil p)
