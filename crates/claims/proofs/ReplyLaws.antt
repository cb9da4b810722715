-- The reply to one claim: `hear`, `own`, `answer`, `reply` and `false_match` of Reply, over rising keys and without positions. In order: the middle key of
-- three; the keys with both ends, and after hearing; own is the claim of the keys from lo to hi; the helper has something to tell; the view of an answer (`Answered`), one
-- constructor a case with its facts in terms of spans; every claim of a reply is the claim of a span of the store; a match that is not false; an answer
-- by the keys from lo to hi alone.
-- What is added is spoken of as `adding`, save in `adding_mem` and the laws before it. What follows from a middle key that is added is in ThirdLaws.
-- Assumes nothing.
use Prim.Native.Nat.{ℕ, ◌+◌, ◌-◌, ◌/◌, ◌≤◌, ◌<◌}
use mathlib.Core.Bool.{Bool, true, false, cond, not, ◌&&◌, false≢true, true≢false}
use mathlib.Core.List.Memᴰ
use mathlib.Core.List.{List, [], ◌∷◌, ◌++◌, Memᴰ}
use mathlib.Core.Logic.{◌⊎◌, inl, inr, ⊎_elim}
use mathlib.Core.Path.{◌≡◌, refl, sym, ap, ap₂, ◌∙◌, subst}
use native.Mathlib.Omega.{arith}
use borrow.Author.Tests.{lt-ltb, ltb-true, ltb-false, eqb-true}
use lib.Dec.{ltb, eqb}
use lib.ListN.{length, take, drop, get_or}
use lib.Seq.{take_at, drop_at}
use Rattle.keys.specs.Store.{limit, same_keys, position, insert_all}
use Rattle.keys.proofs.Tests.{and_left, and_right, Order, less, equal, greater, order}
use Rattle.keys.proofs.Rising.{Rising, Sub, sub_trans, sub_append_left, rising_get_d, rising_length}
use Rattle.keys.proofs.Insert.{length_insert_le, mem_insert_all_old, mem_insert_all_new, insert_all_mem, insert_all_sub}
use Rattle.keys.proofs.Insert.{insert_all_rising, insert_all_held, insert_all_same, length_insert_all_ge}
use Rattle.keys.proofs.Position.{get_d_position, position_mono}
use Rattle.keys.proofs.StoreLaws.{same_keys_equal, same_keys_refl}
use Rattle.claims.specs.declared.claim.Claim.{Claim}
use Rattle.claims.specs.Answer.{Answer, Refused, Match, Ask, One, Two}
use Rattle.claims.specs.Claim.{span, xor_all, claim_of, between, middle_key, middle_inside}
use Rattle.claims.specs.Reply.{ends, with_ends, wants_middle, has_space, third, adding, hear}
use Rattle.claims.specs.Reply.{own, same, z_of, help, decide, answer, reply, number_of, claims_of, matches, false_match}
use Rattle.claims.proofs.Xor.{xor_all_one, xor_all_two}
use Rattle.claims.proofs.Between.{inside, between_one, between_inside, length_between_inside}
use Rattle.claims.proofs.Span.{first, last, mem_first, mem_last}
use Rattle.claims.proofs.Span.{first_span, last_span, length_span, span_join, between_span, span_inside}
use Rattle.claims.proofs.Stretch.{Stretch, stretch_rising, stretch_sub, stretch_between}
use Rattle.claims.proofs.QuestionLaws.{Passes}
use Rattle.claims.proofs.ClaimLaws.{span_claim, claim_of_span, claim_of_between, range_claim, span_claim_range, middle_key_span}
use Rattle.claims.proofs.ClaimLaws.{claim_ext, same_claim, claim_same}

-- ---- the middle key of three

-- it is wanted by keys l, which have lo and hi
pub record Wanted (c : Claim) (l : List ℕ) : Type 0 where
  pub three : c.cnt ≡ 3
  pub two : (own c l).cnt ≡ 2
  pub above : c.lo < middle_key c
  pub below : middle_key c < c.hi

pub wanted : (c : Claim) (l : List ℕ) → wants_middle c l ≡ true → Wanted c l
wanted c l e =
    let rest : (eqb (own c l).cnt 2 && middle_inside c) ≡ true = and_right (eqb c.cnt 3) (eqb (own c l).cnt 2 && middle_inside c) e in
    let lies : middle_inside c ≡ true = and_right (eqb (own c l).cnt 2) (middle_inside c) rest in
    record {
      three = eqb-true c.cnt 3 (and_left (eqb c.cnt 3) (eqb (own c l).cnt 2 && middle_inside c) e);
      two = eqb-true (own c l).cnt 2 (and_left (eqb (own c l).cnt 2) (middle_inside c) rest);
      above = ltb-true c.lo (middle_key c) (and_left (ltb c.lo (middle_key c)) (ltb (middle_key c) c.hi) lies);
      below = ltb-true (middle_key c) c.hi (and_right (ltb c.lo (middle_key c)) (ltb (middle_key c) c.hi) lies);
    }

-- what `third` adds: nothing, or that key
pub data Third (c : Claim) (l : List ℕ) : List ℕ → Type 0 where
  left_out : Third c l []
  put_in : Wanted c l → length l < limit → Third c l (middle_key c ∷ [])

pub third_cases : (c : Claim) (l : List ℕ) → Third c l (third c l)
unfolding third
third_cases c l = go (wants_middle c l && has_space l) refl
  where
    go : (t : Bool) → (wants_middle c l && has_space l) ≡ t → Third c l (cond t (middle_key c ∷ []) [])
    go true e = put_in (wanted c l (and_left (wants_middle c l) (has_space l) e)) (ltb-true (length l) limit (and_right (wants_middle c l) (has_space l) e))
    go false e = left_out

third_mem : (c : Claim) (l : List ℕ) (k : ℕ) {t : List ℕ} → Third c l t → Memᴰ k t → (k ≡ middle_key c) × Wanted c l
third_mem c l k left_out m = absurd (Memᴰ.not-nil m)
third_mem c l k (put_in w s) m = (Memᴰ.eq_of_singleton m, w)

-- where there is space for it, whether it is wanted decides
pub third_wanted : (c : Claim) (l : List ℕ) → (wants_middle c l ≡ true → length l < limit) → third c l ≡ cond (wants_middle c l) (middle_key c ∷ []) []
unfolding third
third_wanted c l f = go (wants_middle c l) refl
  where
    go : (t : Bool) → wants_middle c l ≡ t → cond (wants_middle c l && has_space l) (middle_key c ∷ []) [] ≡ cond t (middle_key c ∷ []) []
    go true e = rw (e, lt-ltb (length l) limit (f e))
    go false e = rw e

-- ---- the keys with both ends

pub with_ends_rising : (c : Claim) (l : List ℕ) → Rising l → Rising (with_ends c l)
with_ends_rising c l r = insert_all_rising (ends c) l r

pub with_ends_lo : (c : Claim) (l : List ℕ) → Memᴰ c.lo (with_ends c l)
with_ends_lo c l = mem_insert_all_new (ends c) l c.lo (Memᴰ.head refl)

pub with_ends_hi : (c : Claim) (l : List ℕ) → Memᴰ c.hi (with_ends c l)
with_ends_hi c l = mem_insert_all_new (ends c) l c.hi (Memᴰ.tail (Memᴰ.head refl))

-- ---- the keys after hearing

pub adding_ends : (c : Claim) (l : List ℕ) → Sub (ends c) (adding c l)
adding_ends c l = sub_append_left (ends c) (third c (with_ends c l))

pub mem_adding_lo : (c : Claim) (l : List ℕ) → Memᴰ c.lo (adding c l)
mem_adding_lo c l = Memᴰ.head refl

pub mem_adding_hi : (c : Claim) (l : List ℕ) → Memᴰ c.hi (adding c l)
mem_adding_hi c l = Memᴰ.tail (Memᴰ.head refl)

pub adding_mem : (c : Claim) (l : List ℕ) (k : ℕ) → Memᴰ k (adding c l)
    → (k ≡ c.lo) ⊎ ((k ≡ c.hi) ⊎ ((k ≡ middle_key c) × Wanted c (with_ends c l)))
adding_mem c l k (Memᴰ.head e) = inl e
adding_mem c l k (Memᴰ.tail (Memᴰ.head e)) = inr (inl e)
adding_mem c l k (Memᴰ.tail (Memᴰ.tail m)) = inr (inr (third_mem c (with_ends c l) k (third_cases c (with_ends c l)) m))

-- it lies from lo to hi
pub adding_range : (c : Claim) (l : List ℕ) → c.lo ≤ c.hi → (k : ℕ) → Memᴰ k (adding c l) → (c.lo ≤ k) × (k ≤ c.hi)
adding_range c l h k m = go (adding_mem c l k m)
  where
    go : (k ≡ c.lo) ⊎ ((k ≡ c.hi) ⊎ ((k ≡ middle_key c) × Wanted c (with_ends c l))) → (c.lo ≤ k) × (k ≤ c.hi)
    go (inl e) = (omega arith, omega arith)
    go (inr (inl e)) = (omega arith, omega arith)
    go (inr (inr (e, w))) = (omega (arith, w.above), omega (arith, w.below))

-- The claim of some keys adds none but these, to whatever store: so what claims that were made add was entered.
pub adding_span : (keys l : List ℕ) → 0 < length keys → Sub (adding (span_claim keys) l) keys
adding_span keys l h k m = go (adding_mem (span_claim keys) l k m)
  where
    go : (k ≡ first keys) ⊎ ((k ≡ last keys) ⊎ ((k ≡ middle_key (span_claim keys)) × Wanted (span_claim keys) (with_ends (span_claim keys) l))) → Memᴰ k keys
    go (inl e) = Memᴰ.cast e (mem_first keys h)
    go (inr (inl e)) = Memᴰ.cast e (mem_last keys h)
    go (inr (inr (e, w))) = Memᴰ.cast e (middle_key_span keys w.three)

pub hear_old : (c : Claim) (l : List ℕ) → Sub l (hear c l)
hear_old c l = mem_insert_all_old (adding c l) l

pub hear_new : (c : Claim) (l : List ℕ) → Sub (adding c l) (hear c l)
hear_new c l = mem_insert_all_new (adding c l) l

pub hear_mem : (c : Claim) (l : List ℕ) (k : ℕ) → Memᴰ k (hear c l) → Memᴰ k (adding c l) ⊎ Memᴰ k l
hear_mem c l k m = insert_all_mem (adding c l) l k m

pub hear_sub : (c : Claim) (l m : List ℕ) → Sub (adding c l) m → Sub l m → Sub (hear c l) m
hear_sub c l m s t = insert_all_sub (adding c l) l m s t

pub hear_lo : (c : Claim) (l : List ℕ) → Memᴰ c.lo (hear c l)
hear_lo c l = hear_new c l c.lo (mem_adding_lo c l)

pub hear_hi : (c : Claim) (l : List ℕ) → Memᴰ c.hi (hear c l)
hear_hi c l = hear_new c l c.hi (mem_adding_hi c l)

pub hear_ends : (c : Claim) (l : List ℕ) → Sub (ends c) (hear c l)
hear_ends c l = sub_trans (ends c) (adding c l) (hear c l) (adding_ends c l) (hear_new c l)

pub length_ends_hear : (c : Claim) (l : List ℕ) → length (with_ends c l) ≤ length (hear c l)
length_ends_hear c l = length_insert_all_ge (third c (with_ends c l)) (with_ends c l)

-- where the ends fit, which is what question 6 counts, all of it fits
pub hear_fits : (c : Claim) (l : List ℕ) → length (with_ends c l) ≤ limit → length (hear c l) ≤ limit
hear_fits c l h = go (third_cases c (with_ends c l))
  where
    go : {t : List ℕ} → Third c (with_ends c l) t → length (insert_all t (with_ends c l)) ≤ limit
    go left_out = h
    go (put_in w s) = omega (arith, length_insert_le (middle_key c) (with_ends c l))

pub hear_rising : (c : Claim) (l : List ℕ) → Rising l → Rising (hear c l)
hear_rising c l r = insert_all_rising (adding c l) l r

pub hear_held : (c : Claim) (l : List ℕ) → Rising l → Sub (adding c l) l → hear c l ≡ l
hear_held c l r s = insert_all_held (adding c l) l r s

pub length_hear_ge : (c : Claim) (l : List ℕ) → length l ≤ length (hear c l)
length_hear_ge c l = length_insert_all_ge (adding c l) l

-- a store that has as many keys once it heard is what it was (for counting what a reply adds)
pub hear_same : (c : Claim) (l : List ℕ) → Rising l → length (hear c l) ≤ length l → hear c l ≡ l
hear_same c l r h = insert_all_same (adding c l) l r h

-- ---- own

pub own_between : (c : Claim) (l : List ℕ) → Rising l → c.lo ≤ c.hi → Memᴰ c.lo l → Memᴰ c.hi l → own c l ≡ span_claim (between c.lo c.hi l)
own_between c l r h m n =
    let p = get_d_position c.lo l r m in
    let q = get_d_position c.hi l r n in
    claim_of_between (position c.lo l) (position c.hi l) l r (position_mono c.lo c.hi l h) q.0
    ∙ ap₂ (λ (x y : ℕ). span_claim (between x y l)) p.1 q.1

-- by its four fields
pub own_range : (c : Claim) (l : List ℕ) → Rising l → c.lo ≤ c.hi → Memᴰ c.lo l → Memᴰ c.hi l → own c l ≡ range_claim c.lo c.hi l
own_range c l r h m n = own_between c l r h m n ∙ span_claim_range c.lo c.hi l r h m n

-- ---- the helper has something to tell

-- one key is claimed as it is held
own_alone : (c : Claim) (l : List ℕ) → Rising l → Passes c → Memᴰ c.lo l → Memᴰ c.hi l → c.lo ≡ c.hi → own c l ≡ c
own_alone c l r p m n e =
    let f : between c.lo c.hi l ≡ c.lo ∷ [] = ap (λ (k : ℕ). between c.lo k l) (sym e) ∙ between_one c.lo l r m in
    own_range c l r p.ordered m n
    ∙ claim_ext (range_claim c.lo c.hi l) c refl refl
    (ap xor_all f ∙ xor_all_one c.lo ∙ sym (p.sum_one (p.alone e)))
    (ap length f ∙ sym (p.alone e))

-- and so are two that have none between them
own_pair : (c : Claim) (l : List ℕ) → Rising l → Passes c → Memᴰ c.lo l → Memᴰ c.hi l → c.lo < c.hi → c.cnt ≤ 2
    → inside c.lo c.hi l ≡ [] → own c l ≡ c
own_pair c l r p m n h g e =
    let two : 2 ≤ c.cnt = (p.several h).0 in
    let f : between c.lo c.hi l ≡ c.lo ∷ c.hi ∷ [] = between_inside c.lo c.hi l r h m n ∙ ap (λ (t : List ℕ). c.lo ∷ (t ++ (c.hi ∷ []))) e in
    own_range c l r p.ordered m n
    ∙ claim_ext (range_claim c.lo c.hi l) c refl refl
    (ap xor_all f ∙ xor_all_two c.lo c.hi ∙ sym (p.sum_two (omega arith)))
    (ap length f ∙ (omega arith))

pub helper_has : (c : Claim) (l : List ℕ) → Rising l → Passes c → Memᴰ c.lo l → Memᴰ c.hi l → (own c l ≡ c → ⊥)
    → c.cnt ≤ length (between c.lo c.hi l) → (c.lo < c.hi) × (0 < length (inside c.lo c.hi l))
helper_has c l r p m n f g = go (order c.lo c.hi)
  where
    some : (h : c.lo < c.hi) (t : List ℕ) → inside c.lo c.hi l ≡ t → 0 < length t
    some h [] e =
        let q : length (between c.lo c.hi l) ≡ length (inside c.lo c.hi l) + 2 = length_between_inside c.lo c.hi l r h m n in
        let z : length (inside c.lo c.hi l) ≡ 0 = ap length e in
        absurd (f (own_pair c l r p m n h (omega arith) e))
    some h (k ∷ ks) e = omega arith

    go : Order c.lo c.hi → (c.lo < c.hi) × (0 < length (inside c.lo c.hi l))
    go (less h) = (h, some h (inside c.lo c.hi l) refl)
    go (equal e) = absurd (f (own_alone c l r p m n e))
    go (greater h) = let q : c.lo ≤ c.hi = p.ordered in absurd (omega arith)

-- "The claims that pass questions 2 to 5 below never leave a helper with a > b."
pub helper_positions : (c : Claim) (l : List ℕ) → Rising l → Passes c → Memᴰ c.lo l → Memᴰ c.hi l
    → same (own c l) c ≡ false → ltb (own c l).cnt c.cnt ≡ false → position c.lo l + 1 ≤ position c.hi l - 1
helper_positions c l r p m n s t =
    let e : (own c l).cnt ≡ length (between c.lo c.hi l) = ap (λ (d : Claim). d.cnt) (own_between c l r p.ordered m n) in
    let g : c.cnt ≤ (own c l).cnt = ltb-false (own c l).cnt c.cnt t in
    let h = helper_has c l r p m n (λ (q : own c l ≡ c). false≢true (sym s ∙ claim_same (own c l) c q)) (omega arith) in
    let q : length (between c.lo c.hi l) ≡ length (inside c.lo c.hi l) + 2 = length_between_inside c.lo c.hi l r h.0 m n in
    let z : 0 < length (inside c.lo c.hi l) = h.1 in
    let u : position c.hi l - position c.lo l + 1 ≡ length (between c.lo c.hi l) = e in
    omega arith

-- ---- the view of an answer

-- m is some of the keys of l strictly between lo and hi: all from its first to its last, and at least one
pub record Part (lo hi : ℕ) (l m : List ℕ) : Type 0 where
  pub some : 0 < length m
  pub whole : m ≡ between (first m) (last m) l
  pub after : lo < first m
  pub before : last m < hi

-- what an answer to c by keys l, among them lo and hi, says
pub data Answered (c : Claim) (l : List ℕ) : Answer → Type 0 where
  matched : span_claim (between c.lo c.hi l) ≡ c → Answered c l Match
  asked : {d : Claim} → d ≡ span_claim (between c.lo c.hi l) → length (between c.lo c.hi l) < c.cnt → Answered c l (Ask d)
  helped_one : {d : Claim} → c.cnt ≤ length (between c.lo c.hi l) → c.lo < c.hi
      → d ≡ span_claim (inside c.lo c.hi l) → Part c.lo c.hi l (inside c.lo c.hi l) → Answered c l (One d)
  helped_two : {d e : Claim} (m n : List ℕ) → c.cnt ≤ length (between c.lo c.hi l) → c.lo < c.hi
      → d ≡ span_claim m → e ≡ span_claim n → inside c.lo c.hi l ≡ m ++ n
      → Part c.lo c.hi l m → Part c.lo c.hi l n → last m < first n → Answered c l (Two d e)

span_part : (lo hi i a b j : ℕ) (l : List ℕ) → Rising l → get_or l i 0 ≡ lo → get_or l j 0 ≡ hi → i < a → a ≤ b → b < j → j < length l → Part lo hi l (span a b l)
span_part lo hi i a b j l r p q h g k f =
    let n : length (span a b l) ≡ b - a + 1 = length_span a b l g (omega arith) in
    let u : get_or l i 0 < get_or l a 0 = rising_get_d l r i a h (omega arith) in
    let v : get_or l b 0 < get_or l j 0 = rising_get_d l r b j k f in
    record {
      some = omega arith;
      whole = sym (between_span a b l r g (omega arith));
      after = rw (first_span a b l) (omega arith);
      before = rw (last_span a b l g (omega arith)) (omega arith);
    }

-- help, where lo stands at position i and hi at j
help_answered : (c : Claim) (l : List ℕ) → Rising l → (i j : ℕ) → get_or l i 0 ≡ c.lo → get_or l j 0 ≡ c.hi → i + 1 ≤ j - 1 → j < length l
    → c.cnt ≤ length (between c.lo c.hi l) → c.lo < c.hi → Answered c l (help (i + 1) (j - 1) l)
help_answered c l r i j p q h g n o = go (ltb (j - 1 - (i + 1)) 3) refl
  where
    middle : span (i + 1) (j - 1) l ≡ inside c.lo c.hi l
    middle = span_inside i j l r h g ∙ ap₂ (λ (x y : ℕ). inside x y l) p q

    go : (t : Bool) → ltb (j - 1 - (i + 1)) 3 ≡ t
        → Answered c l
        (cond t (One (claim_of (i + 1) (j - 1) l))
        (Two (claim_of (i + 1) (i + 1 + z_of (i + 1) (j - 1)) l) (claim_of (i + 1 + z_of (i + 1) (j - 1) + 1) (j - 1) l)))
    go true e =
        helped_one n o
        (claim_of_span (i + 1) (j - 1) l h (omega arith) ∙ ap span_claim middle)
        (subst (λ (m : List ℕ). Part c.lo c.hi l m) middle (span_part c.lo c.hi i (i + 1) (j - 1) j l r p q (omega arith) h (omega arith) g))
    go false e =
        let w : 3 ≤ j - 1 - (i + 1) = ltb-false (j - 1 - (i + 1)) 3 e in
        let z : i + 1 + z_of (i + 1) (j - 1) < j - 1 = omega arith in
        let cut = i + 1 + z_of (i + 1) (j - 1) in
        helped_two (span (i + 1) cut l) (span (cut + 1) (j - 1) l) n o
        (claim_of_span (i + 1) cut l (omega arith) (omega arith))
        (claim_of_span (cut + 1) (j - 1) l (omega arith) (omega arith))
        (sym middle ∙ span_join (i + 1) cut (j - 1) l (omega arith) z)
        (span_part c.lo c.hi i (i + 1) cut j l r p q (omega arith) (omega arith) (omega arith) g)
        (span_part c.lo c.hi i (cut + 1) (j - 1) j l r p q (omega arith) (omega arith) (omega arith) g)
        (rw (last_span (i + 1) cut l (omega arith) (omega arith), first_span (cut + 1) (j - 1) l) (rising_get_d l r cut (cut + 1) (omega arith) (omega arith)))

pub answered : (c : Claim) (l : List ℕ) → Rising l → Passes c → Memᴰ c.lo l → Memᴰ c.hi l → Answered c l (answer c l)
unfolding answer
answered c l r p m n = go (same (own c l) c) refl (ltb (own c l).cnt c.cnt) refl
  where
    own_is : own c l ≡ span_claim (between c.lo c.hi l)
    own_is = own_between c l r p.ordered m n

    own_cnt : (own c l).cnt ≡ length (between c.lo c.hi l)
    own_cnt = ap (λ (d : Claim). d.cnt) own_is

    go : (t : Bool) → same (own c l) c ≡ t → (u : Bool) → ltb (own c l).cnt c.cnt ≡ u
        → Answered c l (cond t Match (cond u (Ask (own c l)) (help (position c.lo l + 1) (position c.hi l - 1) l)))
    go true e u f = matched (sym own_is ∙ same_claim (own c l) c e)
    go false e true f = let h : (own c l).cnt < c.cnt = ltb-true (own c l).cnt c.cnt f in let k = own_cnt in asked own_is (omega arith)
    go false e false f =
        let h : c.cnt ≤ (own c l).cnt = ltb-false (own c l).cnt c.cnt f in
        let k = own_cnt in
        let some = helper_has c l r p m n (λ (q : own c l ≡ c). false≢true (sym e ∙ claim_same (own c l) c q)) (omega arith) in
        let a = get_d_position c.lo l r m in
        let b = get_d_position c.hi l r n in
        help_answered c l r (position c.lo l) (position c.hi l) a.1 b.1 (helper_positions c l r p m n e f) b.0 (omega arith) some.0

-- of a reply, whose store holds lo and hi once it heard the claim
pub reply_answered : (c : Claim) (l : List ℕ) → Rising l → Passes c → Answered c (hear c l) (reply c l)
reply_answered c l r p = answered c (hear c l) (hear_rising c l r) p (hear_lo c l) (hear_hi c l)

-- no answer is a refusal
pub number_of_help : (a b : ℕ) (l : List ℕ) → number_of (help a b l) ≡ 0
number_of_help a b l = go (ltb (b - a) 3)
  where
    go : (t : Bool) → number_of (cond t (One (claim_of a b l)) (Two (claim_of a (a + z_of a b) l) (claim_of (a + z_of a b + 1) b l))) ≡ 0
    go true = refl
    go false = refl

pub number_of_decide : (mine c : Claim) (helped : Answer) → number_of helped ≡ 0 → number_of (decide mine c helped) ≡ 0
number_of_decide mine c helped e = go (same mine c) (ltb mine.cnt c.cnt)
  where
    go : (t u : Bool) → number_of (cond t Match (cond u (Ask mine) helped)) ≡ 0
    go true u = refl
    go false true = refl
    go false false = e

pub number_of_answer : (c : Claim) (l : List ℕ) → number_of (answer c l) ≡ 0
unfolding answer
number_of_answer c l =
    number_of_decide (own c l) c (help (position c.lo l + 1) (position c.hi l - 1) l) (number_of_help (position c.lo l + 1) (position c.hi l - 1) l)

-- ---- the claims of a reply

-- d is the claim of all the keys of l from one of them to one of them
pub record Spanned (l : List ℕ) (d : Claim) : Type 0 where
  pub keys : List ℕ
  pub claim : d ≡ span_claim keys
  pub some : 0 < length keys
  pub whole : keys ≡ between (first keys) (last keys) l

-- the keys that a claim spans rise and are held, so there are no more than the store has
pub spanned_keys : (l : List ℕ) (d : Claim) → Rising l → (t : Spanned l d) → Rising t.keys × Sub t.keys l × (length t.keys ≤ length l)
spanned_keys l d r t =
    let s : Stretch l t.keys = record { some = t.some; whole = sym t.whole } in
    let rk : Rising t.keys = stretch_rising l t.keys r s in
    let sk : Sub t.keys l = stretch_sub l t.keys s in
    (rk, sk, rising_length t.keys l rk r sk)

pub between_spanned : (lo hi : ℕ) (l : List ℕ) → Rising l → lo ≤ hi → Memᴰ lo l → Memᴰ hi l → Spanned l (span_claim (between lo hi l))
between_spanned lo hi l r h m n =
    let s : Stretch l (between lo hi l) = stretch_between l lo hi r h m n in
    record { keys = between lo hi l; claim = refl; some = s.some; whole = sym s.whole }

pub part_spanned : (lo hi : ℕ) (l m : List ℕ) (d : Claim) → d ≡ span_claim m → Part lo hi l m → Spanned l d
part_spanned lo hi l m d e p = record { keys = m; claim = e; some = p.some; whole = p.whole }

pub answered_spanned : (c : Claim) (l : List ℕ) {a : Answer} → Rising l → c.lo ≤ c.hi → Memᴰ c.lo l → Memᴰ c.hi l → Answered c l a
    → (d : Claim) → Memᴰ d (claims_of a) → Spanned l d
answered_spanned c l r h m n (matched e) d x = absurd (Memᴰ.not-nil x)
answered_spanned c l r h m n (asked e f) d x = subst (Spanned l) (sym (Memᴰ.eq_of_singleton x ∙ e)) (between_spanned c.lo c.hi l r h m n)
answered_spanned c l r h m n (helped_one f g e p) d x = part_spanned c.lo c.hi l (inside c.lo c.hi l) d (Memᴰ.eq_of_singleton x ∙ e) p
answered_spanned c l r h m n (helped_two {d = y} {e = z} a b f g e i j p q k) d x =
    ⊎_elim
    {C = Spanned l d}
    (λ (w : d ≡ y). part_spanned c.lo c.hi l a d (w ∙ e) p)
    (λ (w : Memᴰ d (z ∷ [])). part_spanned c.lo c.hi l b d (Memᴰ.eq_of_singleton w ∙ i) q)
    (Memᴰ.cases_cons x)

pub answer_spanned : (c : Claim) (l : List ℕ) → Rising l → Passes c → Memᴰ c.lo l → Memᴰ c.hi l
    → (d : Claim) → Memᴰ d (claims_of (answer c l)) → Spanned l d
answer_spanned c l r p m n = answered_spanned c l r p.ordered m n (answered c l r p m n)

pub reply_spanned : (c : Claim) (l : List ℕ) → Rising l → Passes c → (d : Claim) → Memᴰ d (claims_of (reply c l)) → Spanned (hear c l) d
reply_spanned c l r p = answer_spanned c (hear c l) (hear_rising c l r) p (hear_lo c l) (hear_hi c l)

-- ---- a match that is not false

pub matches_match : (a : Answer) → matches a ≡ true → a ≡ Match
matches_match (Refused n) h = absurd (false≢true h)
matches_match Match h = refl
matches_match (Ask c) h = absurd (false≢true h)
matches_match (One c) h = absurd (false≢true h)
matches_match (Two c d) h = absurd (false≢true h)

-- a match that is not false: the sender held just what the receiver holds
pub match_same : (claimed : List ℕ) (c : Claim) (l : List ℕ) → false_match claimed c l ≡ false → reply c l ≡ Match → claimed ≡ between c.lo c.hi (hear c l)
match_same claimed c l h e = go (matches (reply c l)) (ap matches e) (same_keys claimed (between c.lo c.hi (hear c l))) refl h
  where
    go : (t : Bool) → t ≡ true → (u : Bool) → same_keys claimed (between c.lo c.hi (hear c l)) ≡ u → (t && not u) ≡ false
        → claimed ≡ between c.lo c.hi (hear c l)
    go true p true q f = same_keys_equal claimed (between c.lo c.hi (hear c l)) q
    go true p false q f = absurd (true≢false f)
    go false p u q f = absurd (false≢true p)

-- .. and the other way round
pub same_match : (claimed : List ℕ) (c : Claim) (l : List ℕ) → claimed ≡ between c.lo c.hi (hear c l) → false_match claimed c l ≡ false
same_match claimed c l e =
    go (matches (reply c l)) (same_keys claimed (between c.lo c.hi (hear c l))) (subst (λ (k : List ℕ). same_keys claimed k ≡ true) e (same_keys_refl claimed))
  where
    go : (t u : Bool) → u ≡ true → (t && not u) ≡ false
    go true true h = refl
    go true false h = absurd (false≢true h)
    go false u h = refl

-- What the definition means, cited nowhere: a false match is a match, and the keys differ.
pub false_match_differs : (claimed : List ℕ) (c : Claim) (l : List ℕ) → false_match claimed c l ≡ true
    → (reply c l ≡ Match) × (claimed ≡ between c.lo c.hi (hear c l) → ⊥)
false_match_differs claimed c l h = (
  matches_match (reply c l) (and_left (matches (reply c l)) (not (same_keys claimed (between c.lo c.hi (hear c l)))) h),
  λ (e : claimed ≡ between c.lo c.hi (hear c l)). false≢true (sym (same_match claimed c l e) ∙ h),
)

-- ---- an answer by the keys from lo to hi alone

-- That a reply is local rests on it, and so does counting: no position and no key outside the range is in it.

-- help, of the keys m strictly between lo and hi
abbrev pub help_by : List ℕ → Answer
help_by m = cond (ltb (length m - 1) 3) (One (span_claim m)) (Two (span_claim (take (length m / 2 + 1) m)) (span_claim (drop (length m / 2 + 1) m)))

-- an answer, of the keys k from lo to hi, and m of them strictly between
abbrev pub answer_by : Claim → List ℕ → List ℕ → Answer
answer_by c k m = decide (span_claim k) c (help_by m)

pub help_span : (a b : ℕ) (l : List ℕ) → a ≤ b → b < length l → help a b l ≡ help_by (span a b l)
help_span a b l h g = go (ltb (b - a) 3) refl (length_span a b l h g)
  where
    m : List ℕ
    m = span a b l

    go : (t : Bool) → ltb (b - a) 3 ≡ t → length m ≡ b - a + 1 → help a b l ≡ help_by m
    go true e n =
        let size : length m - 1 ≡ b - a = omega arith in
        rw (e, ap (λ (x : ℕ). ltb x 3) size, e) (ap (λ (c : Claim). One c) (claim_of_span a b l h g))
    go false e n =
        let size : length m - 1 ≡ b - a = omega arith in
        let z : b + 1 - a ≡ length m = omega arith in
        let w : 3 ≤ b - a = ltb-false (b - a) 3 e in
        let i : z_of a b ≡ length m / 2 = ap (λ (x : ℕ). x / 2) z in
        let cut : ℕ = a + z_of a b in
        let f : a + z_of a b < b = omega arith in
        let j : m ≡ span a cut l ++ span (cut + 1) b l = span_join a cut b l (omega arith) f in
        let k : length (span a cut l) ≡ length m / 2 + 1 = length_span a cut l (omega arith) (omega arith) ∙ (omega arith) in
        let x : take (length m / 2 + 1) m ≡ span a cut l = ap (take (length m / 2 + 1)) j ∙ take_at (span a cut l) (span (cut + 1) b l) (length m / 2 + 1) k in
        let y : drop (length m / 2 + 1) m ≡ span (cut + 1) b l
        = ap (drop (length m / 2 + 1)) j ∙ drop_at (span a cut l) (span (cut + 1) b l) (length m / 2 + 1) k in
        rw (e, ap (λ (q : ℕ). ltb q 3) size, e)
        (ap₂ (λ (c d : Claim). Two c d) (claim_of_span a cut l (omega arith) (omega arith) ∙ ap span_claim (sym x))
        (claim_of_span (cut + 1) b l (omega arith) (omega arith) ∙ ap span_claim (sym y)))

pub answer_by_lem : (c : Claim) (l : List ℕ) → Rising l → Passes c → Memᴰ c.lo l → Memᴰ c.hi l
    → answer c l ≡ answer_by c (between c.lo c.hi l) (inside c.lo c.hi l)
unfolding answer
answer_by_lem c l r p m n =
    ap (λ (o : Claim). decide o c (help (position c.lo l + 1) (position c.hi l - 1) l)) is
    ∙ go (same k c) refl (ltb k.cnt c.cnt) refl
  where
    k : Claim
    k = span_claim (between c.lo c.hi l)

    is : own c l ≡ k
    is = own_between c l r p.ordered m n

    helped : same k c ≡ false → ltb k.cnt c.cnt ≡ false → help (position c.lo l + 1) (position c.hi l - 1) l ≡ help_by (inside c.lo c.hi l)
    helped e f =
        let a = get_d_position c.lo l r m in
        let b = get_d_position c.hi l r n in
        let q : position c.hi l < length l = b.0 in
        let h : position c.lo l + 1 ≤ position c.hi l - 1
        = helper_positions c l r p m n (ap (λ (o : Claim). same o c) is ∙ e) (ap (λ (o : Claim). ltb o.cnt c.cnt) is ∙ f) in
        help_span (position c.lo l + 1) (position c.hi l - 1) l h (omega arith)
        ∙ ap help_by (span_inside (position c.lo l) (position c.hi l) l r h b.0 ∙ ap₂ (λ (x y : ℕ). inside x y l) a.1 b.1)

    go : (t : Bool) → same k c ≡ t → (u : Bool) → ltb k.cnt c.cnt ≡ u
        → decide k c (help (position c.lo l + 1) (position c.hi l - 1) l) ≡ decide k c (help_by (inside c.lo c.hi l))
    go true e u f = rw e
    go false e true f = rw (e, f)
    go false e false f = rw (e, f) (helped e f)
