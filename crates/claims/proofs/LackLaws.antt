-- A claim that comes to a store which lacks its keys: it holds none of them, and no other from lo to hi (`Lacks`). In order: of other than three keys only
-- the ends are added, so that what lay strictly between them is as it was; of more than three keys the store has two then; at most three keys are had at
-- once, where there is space: three of them by the middle key (document 02, slip 1). Assumes nothing.
use Prim.Native.Nat.{ℕ, zero, suc, ◌+◌, ◌≤◌, ◌<◌}
use mathlib.Core.Bool.{true, ◌&&◌}
use mathlib.Core.List.Memᴰ
use mathlib.Core.List.{List, [], ◌∷◌, Memᴰ}
use mathlib.Core.Logic.{◌⊎◌, inl, inr, ⊎_elim}
use mathlib.Core.Path.{◌≡◌, refl, sym, ap, ◌∙◌, subst}
use native.Mathlib.Omega.{arith}
use borrow.Author.Tests.{lt-ltb, eq-eqb}
use lib.Dec.{ltb, eqb}
use lib.ListN.{length}
use Rattle.keys.specs.Store.{limit, insert}
use Rattle.keys.proofs.Tests.{and_both}
use Rattle.keys.proofs.Rising.{Rising, Sub, rising_length}
use Rattle.keys.proofs.Insert.{insert_after, insert_rising, length_insert_all_le}
use Rattle.claims.specs.declared.claim.Claim.{Claim}
use Rattle.claims.specs.Claim.{between, middle_key, middle_inside}
use Rattle.claims.specs.Reply.{ends, with_ends, own, wants_middle, third, adding, hear}
use Rattle.claims.proofs.Between.{between_mem, between_rising, between_none, between_insert_within}
use Rattle.claims.proofs.Span.{first, last, first_le_last, first_lt_last, one_key, two_keys}
use Rattle.claims.proofs.ClaimLaws.{span_claim, three_keys, middle_key_inside}
use Rattle.claims.proofs.ReplyLaws.{Wanted, third_wanted, adding_mem, hear_new, hear_mem, hear_lo, hear_hi, hear_ends, hear_rising}
use Rattle.claims.proofs.ThirdLaws.{own_length}

-- the keys l have none from the first of w to its last
abbrev pub Lacks : List ℕ → List ℕ → Type 0
Lacks l w = (k : ℕ) → Memᴰ k l → first w ≤ k → k ≤ last w → ⊥

-- ---- other than three keys

module _ (w l : List ℕ) (others : length w ≡ 3 → ⊥) where
  adding_others : Sub (adding (span_claim w) l) (ends (span_claim w))
  adding_others k m = go (adding_mem (span_claim w) l k m)
    where
      go : (k ≡ first w) ⊎ ((k ≡ last w) ⊎ ((k ≡ middle_key (span_claim w)) × Wanted (span_claim w) (with_ends (span_claim w) l)))
          → Memᴰ k (ends (span_claim w))
      go (inl e) = Memᴰ.head e
      go (inr (inl e)) = Memᴰ.tail (Memᴰ.head e)
      go (inr (inr (e, i))) = absurd (others i.three)

  -- what is had then: an end, or held before
  hear_others : (k : ℕ) → Memᴰ k (hear (span_claim w) l) → Memᴰ k (ends (span_claim w)) ⊎ Memᴰ k l
  hear_others k m =
      ⊎_elim
      {C = Memᴰ k (ends (span_claim w)) ⊎ Memᴰ k l}
      (λ (n : Memᴰ k (adding (span_claim w) l)). inl (adding_others k n))
      (λ (n : Memᴰ k l). inr n)
      (hear_mem (span_claim w) l k m)

  pub lacks_within : (v : List ℕ) → first w < first v → last v < last w → Lacks l w → Lacks (hear (span_claim w) l) v
  lacks_within v after before lacking k m a b = go (hear_others k m)
    where
      go : Memᴰ k (ends (span_claim w)) ⊎ Memᴰ k l → ⊥
      go (inl (Memᴰ.head e)) = omega arith
      go (inl (Memᴰ.tail (Memᴰ.head e))) = omega arith
      go (inl (Memᴰ.tail (Memᴰ.tail n))) = Memᴰ.not-nil n
      go (inr n) = lacking k n (omega arith) (omega arith)

-- ---- a store that lacks the keys

module _ (w l : List ℕ) (rises : Rising w) (rise : Rising l) (lacking : Lacks l w) where
  abbrev c : Claim
  c = span_claim w

  -- more than three keys: of the range it has the ends then
  pub many_had : 3 < length w → length (between (first w) (last w) (hear (span_claim w) l)) ≤ 2
  many_had many =
      rising_length (between (first w) (last w) (hear c l)) (ends c) (between_rising (first w) (last w) (hear c l) (hear_rising c l rise))
      ((first_lt_last w rises (omega arith), tt), (tt, tt))
      (λ k m.
      let t = between_mem (first w) (last w) (hear c l) k m in
      ⊎_elim
      {C = Memᴰ k (ends c)}
      (λ (n : Memᴰ k (ends c)). n)
      (λ (n : Memᴰ k l). absurd (lacking k n t.1 t.2))
      (hear_others w l (λ e. omega arith) k t.0))

  -- three keys: the middle one is wanted, and added where there is space
  module _ (three : length w ≡ 3) (room : length l + 3 ≤ limit) where
    lies : (first w < middle_key c) × (middle_key c < last w)
    lies = middle_key_inside w rises three

    two_held : between (first w) (last w) (with_ends c l) ≡ ends c
    two_held =
        between_insert_within (first w) (last w) (last w) (insert (first w) l) (insert_rising (first w) l rise) (first_le_last w rises) (omega arith)
        ∙ ap (insert (last w))
        (between_insert_within (first w) (last w) (first w) l rise (omega arith) (first_le_last w rises)
        ∙ ap (insert (first w)) (between_none (first w) (last w) l lacking))
        ∙ insert_after (last w) (first w) [] (first_lt_last w rises (omega arith))

    wants : wants_middle c (with_ends c l) ≡ true
    wants =
        and_both (eqb c.cnt 3) (eqb (own c (with_ends c l)).cnt 2 && middle_inside c) (eq-eqb c.cnt 3 three)
        (and_both (eqb (own c (with_ends c l)).cnt 2) (middle_inside c)
        (eq-eqb (own c (with_ends c l)).cnt 2 (own_length c l rise (first_le_last w rises) ∙ ap length two_held))
        (and_both (ltb (first w) (middle_key c)) (ltb (middle_key c) (last w)) (lt-ltb (first w) (middle_key c) lies.0)
        (lt-ltb (middle_key c) (last w) lies.1)))

    third_added : third c (with_ends c l) ≡ middle_key c ∷ []
    third_added = third_wanted c (with_ends c l) (λ _. omega (arith, length_insert_all_le (ends c) l)) ∙ rw wants

    middle_had : Memᴰ (middle_key c) (hear c l)
    middle_had =
        hear_new c l (middle_key c)
        (Memᴰ.append_right (ends c) (subst (λ (ks : List ℕ). Memᴰ (middle_key c) ks) (sym third_added) (Memᴰ.head refl)))

  -- at most three keys: all of them are had
  pub few_had : 0 < length w → length w ≤ 3 → length l + length w ≤ limit → Sub w (hear (span_claim w) l)
  few_had some few room = go (length w) refl
    where
      go : (n : ℕ) → length w ≡ n → Sub w (hear c l)
      go zero e = absurd (omega arith)
      go (suc zero) e = λ k m. Memᴰ.cast (Memᴰ.eq_of_singleton (subst (λ (x : List ℕ). Memᴰ k x) (one_key w e) m)) (hear_lo c l)
      go (suc (suc zero)) e = subst (λ (x : List ℕ). Sub x (hear c l)) (sym (two_keys w e)) (hear_ends c l)
      go (suc (suc (suc zero))) e = λ k m. each k (subst (λ (x : List ℕ). Memᴰ k x) (three_keys w e) m)
        where
          each : (k : ℕ) → Memᴰ k (first w ∷ middle_key c ∷ last w ∷ []) → Memᴰ k (hear c l)
          each k (Memᴰ.head i) = Memᴰ.cast i (hear_lo c l)
          each k (Memᴰ.tail (Memᴰ.head i)) = Memᴰ.cast i (middle_had e (omega arith))
          each k (Memᴰ.tail (Memᴰ.tail (Memᴰ.head i))) = Memᴰ.cast i (hear_hi c l)
          each k (Memᴰ.tail (Memᴰ.tail (Memᴰ.tail i))) = absurd (Memᴰ.not-nil i)
      go (suc (suc (suc (suc n)))) e = absurd (omega arith)
