-- What a new kiosk costs (document 02, slip 5): a round of an empty left store and a right one of n keys makes E(n) deliveries, whichever keys they are, and
-- both stores hold them then (`met_opening`). In order: there is space for keys that are lacking; a claim of lacking keys costs E of how many they are
-- (`count_lacking`); the round; the call, and that it is not refused. E is `opening_cost`, and its equations are in `opening`. Assumes nothing.
use Prim.Native.Nat.{ℕ, zero, suc, ◌+◌, ◌-◌, ◌*◌, ◌≤◌, ◌<◌}
use mathlib.Core.Bool.{true}
use mathlib.Core.List.Memᴰ
use mathlib.Core.List.{List, [], ◌∷◌, ◌++◌, Memᴰ}
use mathlib.Core.Logic.{inr, ⊎_elim}
use mathlib.Core.Path.{◌≡◌, refl, sym, ap, ◌∙◌, subst}
use native.Mathlib.Omega.{arith}
use lib.ListN.{length, length-append}
use Rattle.keys.specs.declared.store.Store.{Store}
use Rattle.keys.specs.Store.{limit, Sized, keys_of, store_of, empty_store, in_order, insert_all}
use Rattle.keys.proofs.Tests.{lt_or_le}
use Rattle.keys.proofs.Rising.{Rising, Sub, sub_refl, rising_length}
use Rattle.keys.proofs.Insert.{insert_all_rising, insert_all_sub, length_insert_all_missing}
use Rattle.keys.proofs.StoreLaws.{in_order_rising, in_order_count, length_keys_of, store_of_keys_of, keys_of_empty_store, in_order_empty_store}
use Rattle.claims.specs.Reply.{hear}
use Rattle.claims.proofs.Between.{inside, mem_between, inside_mem, between_rising}
use Rattle.claims.proofs.Span.{first, last, first_le, le_last, mem_first, mem_last}
use Rattle.claims.proofs.Stretch.{Stretch, stretch_rising, stretch_sub, stretch_all}
use Rattle.claims.proofs.ClaimLaws.{span_claim}
use Rattle.claims.proofs.ReplyLaws.{hear_rising}
use Rattle.claims.proofs.LackLaws.{Lacks, lacks_within, many_had, few_had}
use Rattle.rule.specs.Answer.{Met}
use Rattle.rule.specs.Round.{End, left_end, right_end, other, Pair, pair, keys_at, entry, Run, half, round_of}
use Rattle.rule.specs.Call.{round_by, met}
use Rattle.rule.proofs.Pair.{rises_pair, within_union_of, keys_at_receiver}
use Rattle.rule.proofs.RoundLaws.{round_of_halves}
use Rattle.rule.proofs.CallLaws.{round_questions_yes, yes_round_questions, met_zero, met_done}
use Rattle.opening.specs.Cost.{cut, opening_cost}
use Rattle.opening.specs.Call.{costed}
use Rattle.opening.proofs.CostLaws.{opening_cost_none, opening_cost_few, opening_cost_one, opening_cost_two}
use Rattle.opening.proofs.CallLaws.{costed_yes}
use Rattle.meeting.specs.Opening.{after_opening}
use Rattle.meeting.proofs.Fuller.{round_fuller}
use Rattle.meeting.proofs.Counting.{FullEnd, count, Helped, one, two, half_cost, half_none}
use Rattle.meeting.proofs.Claiming.{has_then, after_claim, Counted, match, ask, claim_full_end, counting}

-- ---- there is space for keys that are lacking: with those that are held, they are some of u

lacks_room : (s : End) (u : List ℕ) (p : Pair) (w : List ℕ) → FullEnd s u p → Stretch u w → Lacks (keys_at (other s) p) w →
    length (keys_at (other s) p) + length w ≤ limit
lacks_room s u p w y t lacking =
    let l : List ℕ = keys_at (other s) p in
    let r : Rising w = stretch_rising u w y.whole t in
    let a : length (insert_all w l) ≤ length u
    = rising_length (insert_all w l) u (insert_all_rising w l (y.rises (other s))) y.whole (insert_all_sub w l u (stretch_sub u w t) (y.within (other s))) in
    let b : length (insert_all w l) ≡ length l + length w
    = length_insert_all_missing w l r (λ k m n. lacking k n (first_le w r k m) (le_last w r k m)) in
    omega (arith, y.fits)

-- ---- a claim of lacking keys

-- what each claim of at most n keys costs, where the other end lacks them
abbrev Costs : ℕ → End → List ℕ → Pair → Type 0
Costs n s u p = (w : List ℕ) → Stretch u w → length w ≤ n → Lacks (keys_at (other s) p) w → count s u p w ≡ opening_cost (length w)

module _ (n : ℕ) (s : End) (u : List ℕ) (p : Pair) (y : FullEnd s u p) (w : List ℕ) (t : Stretch u w) (small : length w ≤ suc n)
    (lacking : Lacks (keys_at (other s) p) w) (later : Costs n s u (after_claim s u p w)) where
  abbrev l : List ℕ
  l = keys_at (other s) p

  -- what the other end has once it heard the claim
  abbrev k : List ℕ
  k = hear (span_claim w) l

  -- the keys strictly between the ends
  abbrev m : List ℕ
  m = inside (first w) (last w) u

  rises : Rising w
  rises = stretch_rising u w y.whole t

  all_had : length w ≤ 3 → length w ≤ length (has_then s p w)
  all_had few =
      rising_length w (has_then s p w) rises (between_rising (first w) (last w) k (hear_rising (span_claim w) l (y.rises (other s))))
      (λ x i.
      mem_between (first w) (last w) k x (few_had w l rises (y.rises (other s)) lacking t.some few (lacks_room s u p w y t lacking) x i)
      (first_le w rises x i) (le_last w rises x i))

  -- the claim of a part of m costs E of how many keys it has: these are lacking still
  part : 3 < length w → (v : List ℕ) → Stretch u v → length v ≤ n → Sub v m → count s u (after_claim s u p w) v ≡ opening_cost (length v)
  part many v a h sub =
      let f = inside_mem (first w) (last w) u (first v) (sub (first v) (mem_first v a.some)) in
      let g = inside_mem (first w) (last w) u (last v) (sub (last v) (mem_last v a.some)) in
      later v a h
      (subst (λ (x : List ℕ). Lacks x v) (sym (keys_at_receiver (entry s u (span_claim w)) p))
      (lacks_within w l (λ e. omega arith) v f.1 g.2 lacking))

  helps : {x : ℕ} → 3 < length w → length w ≡ length m + 2 → Helped u m (count s u (after_claim s u p w)) x → suc (suc x) ≡ opening_cost (length w)
  helps many long (one few a) =
      let i = part many m a (omega arith) (sub_refl m) ∙ ap opening_cost (let e : length m ≡ length w - 2 = omega arith in e) in
      omega (arith, i, opening_cost_one (length w) many (omega arith))
  helps many long (two b d j four cuts tb td) =
      let both : length m ≡ length b + length d = ap length j ∙ length-append b d in
      let nb : length b ≡ cut (length w) + 1 = omega arith in
      let nd : length d ≡ length w - 3 - cut (length w) = omega arith in
      let ib = part many b tb (omega arith) (λ x i. subst (λ (v : List ℕ). Memᴰ x v) (sym j) (Memᴰ.append_left d i)) ∙ ap opening_cost nb in
      let id = part many d td (omega arith) (λ x i. subst (λ (v : List ℕ). Memᴰ x v) (sym j) (Memᴰ.append_right b i)) ∙ ap opening_cost nd in
      omega (arith, ib, id, opening_cost_two (length w) (omega arith))

  step : Counted s u p w → count s u p w ≡ opening_cost (length w)
  step (match g e) =
      ⊎_elim
      {C = count s u p w ≡ opening_cost (length w)}
      (λ (many : 3 < length w). absurd (omega (arith, many_had w l rises (y.rises (other s)) lacking many)))
      (λ (few : length w ≤ 3). e ∙ sym (opening_cost_few (length w) t.some few))
      (lt_or_le 3 (length w))
  step (ask x g e long d) =
      ⊎_elim
      {C = count s u p w ≡ opening_cost (length w)}
      (λ (many : 3 < length w). e ∙ helps many long d)
      (λ (few : length w ≤ 3). absurd (omega (arith, all_had few)))
      (lt_or_le 3 (length w))

count_lacking : (n : ℕ) (s : End) (u : List ℕ) (p : Pair) → FullEnd s u p → Costs n s u p
count_lacking zero s u p y w t small lacking = absurd (omega (arith, t.some))
count_lacking (suc n) s u p y w t small lacking =
    step n s u p y w t small lacking (count_lacking n s u (after_claim s u p w) (claim_full_end s u p y w t)) (counting s u p y w t)

-- ---- the round

-- the left half makes no delivery, and the right one opens with the claim of all keys
pub round_cost : (r : List ℕ) → Rising r → length r ≤ limit → length (round_of [] r).lines ≡ opening_cost (length r)
round_cost r rr fits =
    ap (λ (x : Run). length x.lines) (round_of_halves [] r)
    ∙ (ap (λ (x : Run). length (x.lines ++ (half right_end x.stores).lines)) (half_none left_end p refl) ∙ second r refl)
  where
    p : Pair
    p = pair [] r

    full : FullEnd right_end r p
    full = record { whole = rr; fits = fits; rises = rises_pair [] r tt rr; full = refl; within = within_union_of p }

    second : (l : List ℕ) → l ≡ r → length (half right_end p).lines ≡ opening_cost (length r)
    second [] e =
        ap (λ (x : Run). length x.lines) (half_none right_end p (sym e)) ∙ (sym opening_cost_none ∙ ap (λ (x : List ℕ). opening_cost (length x)) e)
    second (k ∷ ks) e =
        let some : 0 < length r = subst (λ (x : List ℕ). 0 < length x) e (omega arith) in
        half_cost right_end p some
        ∙ count_lacking (length r) right_end r p full r (stretch_all r rr some) (omega arith) (λ x i. absurd (Memᴰ.not-nil i))

-- ---- the call

-- Of every store that has its places: where the round is not refused, it returns what slip 5 says. Nothing is said of matches.
pub met_opening : (t : Store) (records : ℕ) → Sized t → (met empty_store t records).number ≡ 0 → met empty_store t records ≡ after_opening t
met_opening t records sized z =
    let yes = met_zero empty_store t records z in
    let ordered : in_order t ≡ true = (round_questions_yes empty_store t records yes).right in
    let r : Rising (keys_of t) = in_order_rising t ordered in
    let fits : length (keys_of t) ≤ limit = omega (arith, length_keys_of t sized.keys ordered, in_order_count t ordered) in
    let run : round_by empty_store t ≡ round_of [] (keys_of t) = ap (λ (l : List ℕ). round_of l (keys_of t)) keys_of_empty_store in
    let stores : (round_by empty_store t).stores ≡ pair (keys_of t) (keys_of t)
    = ap (λ (x : Run). x.stores) run ∙ round_fuller [] (keys_of t) tt r fits (inr (λ k i. absurd (Memᴰ.not-nil i))) in
    let same : store_of (keys_of t) ≡ t = sym (store_of_keys_of t sized ordered) in
    let left : store_of (round_by empty_store t).stores.left ≡ t = ap (λ (x : Pair). store_of x.left) stores ∙ same in
    let right : store_of (round_by empty_store t).stores.right ≡ t = ap (λ (x : Pair). store_of x.right) stores ∙ same in
    let cost : length (round_by empty_store t).lines ≡ opening_cost t.count
    = ap (λ (x : Run). length x.lines) run ∙ (round_cost (keys_of t) r fits ∙ ap opening_cost (length_keys_of t sized.keys ordered)) in
    met_done empty_store t records yes ∙ (λ i. record { number = 0; left = left i; right = right i; deliveries = cost i })

-- It is not refused where the store is in order and records enough are lent.
pub opening_accepted : (t : Store) (records : ℕ) → Sized t → in_order t ≡ true → 2 * t.count ≤ records →
    (met empty_store t records).number ≡ 0
opening_accepted t records sized ordered room =
    ap (λ (x : Met). x.number)
    (met_done empty_store t records (yes_round_questions empty_store t records (record {
      left = in_order_empty_store;
      right = ordered;
      fits = rw keys_of_empty_store (omega (arith, length_keys_of t sized.keys ordered, in_order_count t ordered));
      room = rw keys_of_empty_store (omega (arith, length_keys_of t sized.keys ordered));
    })))

-- So `opening_cost` tells beforehand what the round then returns.
pub cost_foretold : (t : Store) (records : ℕ) → Sized t → (met empty_store t records).number ≡ 0 →
    costed t.count ≡ record { number = 0; deliveries = (met empty_store t records).deliveries }
cost_foretold t records sized z =
    sym
    (costed_yes t.count (met empty_store t records).deliveries
    (in_order_count t (round_questions_yes empty_store t records (met_zero empty_store t records z)).right)
    (ap (λ (x : Met). x.deliveries) (met_opening t records sized z)))
