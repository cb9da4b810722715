-- What the calls on a lent run mean (specs/Lent against specs/Claim and Reply): of any store, what a refusal leaves; and of a store in order, `store_of l`
-- for rising keys l, the rule. The crates above prove their loops from these. In order: a claim heard; a claim made; the answer; the reply, by a store
-- whose sums are right below its mark (`MarkedOf`). Assumes nothing.
use mathlib.Core.Path.{◌≡◌, refl, sym, ◌∙◌, ap, ap₂, subst}
use mathlib.Core.Logic.{⊎_elim}
use mathlib.Core.Bool.{Bool, true, false, cond, ◌&&◌, and-true}
use mathlib.Core.List.{List, [], ◌∷◌, Memᴰ}
use Prim.Native.Nat.{ℕ, suc, ◌+◌, ◌-◌, ◌≤◌, ◌<◌, min, max}
use native.Mathlib.Omega.{arith}
use borrow.Author.Tests.{lt-ltb, le-leb, leb-true, ltb-true, ltb-false, eqb-true, eq-eqb, ne_eqb}
use lib.Dec.{ltb, leb, eqb}
use lib.ListN.{length, take}
use lib.Seq.{take-take}
use Rattle.keys.specs.declared.lent.Place.{Place}
use Rattle.keys.specs.declared.store.Store.{Store}
use Rattle.keys.specs.Store.{limit, store_of, position, insert, insert_all}
use Rattle.keys.specs.Lent.{resummed, Marked, place_in, store_with, Grown, grown, add_in, add_both_in}
use Rattle.keys.proofs.Tests.{and_left, and_right, and_both, lt_or_le, eq_or_ne}
use Rattle.keys.proofs.Rising.{Rising}
use Rattle.keys.proofs.Insert.{length_insert_missing}
use Rattle.keys.proofs.Position.{position_mono, get_d_position, position_insert_le, position_insert_missing, position_insert_all, take_insert_all}
use Rattle.keys.proofs.StoreLaws.{count_store_of, length_keys_store_of, length_sums_store_of}
use Rattle.keys.proofs.SumLaws.{RightTo, right_store, right_less, right_grown, resummed_past, resummed_right, MarkedOf}
use Rattle.keys.proofs.LentLaws.{store_with_store_of, place_in_store, add_in_fits, add_in_full, add_both_in_fits, add_both_in_full, add_in_count, Laid, add_both_in_laid}
use Rattle.claims.specs.Answer.{Refused, Match, Ask, One, Two, Made}
use Rattle.claims.specs.declared.claim.Claim.{Claim}
use Rattle.claims.specs.Claim.{claim_of, no_claim, middle_key, middle_inside}
use Rattle.claims.specs.Question.{question, first_no, claim_questions}
use Rattle.claims.specs.Reply.{with_ends, wants_middle, has_space, third, adding}
use Rattle.claims.specs.Reply.{hear, own, same, decide, z_of, help, answer, reply, number_of}
use Rattle.claims.specs.Call.{judged}
use Rattle.claims.specs.Lent.{hear_questions, Hearing, tells_third, ends_heard, third_heard, heard, unheard, hear_in, claim_by, within, make_in}
use Rattle.claims.specs.Lent.{help_by, help_in, answer_at, answer_in, heard_by, mark_heard, ready_to, RepliedIn, answered, reply_in}
use Rattle.claims.proofs.QuestionLaws.{Passes, passes_first_no, judged_first_no}
use Rattle.claims.proofs.QuestionLaws.{first_no_append_zero, first_no_append_no, settle_kept, claim_questions_numbered}
use Rattle.claims.proofs.ReplyLaws.{Wanted, wanted, with_ends_rising, adding_range, hear_fits, hear_same, length_hear_ge, number_of_decide}
use Rattle.claims.proofs.ReplyLaws.{hear_rising, hear_lo, hear_hi, helper_positions}
use Rattle.claims.proofs.ThirdLaws.{wanted_missing}
use Rattle.claims.proofs.SpanSums.{claim_by_right}

-- ---- a claim heard, by any store

-- where lo and hi stand, and in what
abbrev pub standing : Hearing → Grown
standing h = grown h.store h.first h.last

-- once the ends stand at positions of the store, they do so after the third key too
heard_laid : (c : Claim) (g : Grown) → Laid g → Laid (standing (heard c g))
heard_laid c g l = go (tells_third g.first g.last c)
  where
    t : Grown
    t = add_in g.store (middle_key c)

    go : (told : Bool) → Laid (standing (cond told (third_heard g t) (ends_heard g)))
    go true =
        let more = add_in_count g.store (middle_key c) in
        record { rise = omega (arith, l.rise); inside = omega (arith, l.inside, more.0); short = more.2 l.short }
    go false = record { rise = l.rise; inside = l.inside; short = l.short }

module _ (s : Store) (c : Claim) where
  pub hear_in_judged : (judged c ≡ 0 → ⊥) → hear_in s c ≡ unheard s (judged c)
  unfolding hear_in judged
  hear_in_judged f = rw (first_no_append_no (claim_questions c) (question 6 (add_both_in s c.lo c.hi).fits ∷ []) f, ne_eqb (first_no (claim_questions c)) 0 f)

  module _ (pass : judged c ≡ 0) where
    -- what is left to ask is 6
    only_6 : first_no (hear_questions s c) ≡ cond (add_both_in s c.lo c.hi).fits 0 6
    unfolding judged
    only_6 = first_no_append_zero (claim_questions c) (question 6 (add_both_in s c.lo c.hi).fits ∷ []) (claim_questions_numbered c) pass

    pub hear_in_unfit : (add_both_in s c.lo c.hi).fits ≡ false → hear_in s c ≡ unheard s 6
    unfolding hear_in
    hear_in_unfit e = let six : first_no (hear_questions s c) ≡ 6 = only_6 ∙ rw e in rw six

    pub hear_in_fit : (add_both_in s c.lo c.hi).fits ≡ true → hear_in s c ≡ heard c (add_both_in s c.lo c.hi)
    unfolding hear_in
    hear_in_fit e = let none : first_no (hear_questions s c) ≡ 0 = only_6 ∙ rw e in rw none

  -- refused: the store is what it was
  pub hear_in_kept : ((hear_in s c).number ≡ 0 → ⊥) → (hear_in s c).store ≡ s
  unfolding hear_in
  hear_in_kept = settle_kept (λ (h : Hearing). h.number) (λ (h : Hearing). h.store) (heard c g) (unheard s) (none (tells_third g.first g.last c))
      (λ n. refl) (first_no (hear_questions s c))
    where
      g : Grown
      g = add_both_in s c.lo c.hi

      none : (t : Bool) → (cond t (third_heard g (add_in g.store (middle_key c))) (ends_heard g)).number ≡ 0
      none true = refl
      none false = refl

  -- not refused: lo and hi stand at positions of the store
  pub hear_in_laid : (hear_in s c).number ≡ 0 → Laid (standing (hear_in s c))
  hear_in_laid e = ⊎_elim {C = Laid (standing (hear_in s c))}
      (λ (pass : judged c ≡ 0). fitting pass (add_both_in s c.lo c.hi).fits refl)
      (λ f. absurd (f (sym (ap (λ (h : Hearing). h.number) (hear_in_judged f)) ∙ e)))
      (eq_or_ne (judged c) 0)
    where
      fitting : judged c ≡ 0 → (t : Bool) → (add_both_in s c.lo c.hi).fits ≡ t → Laid (standing (hear_in s c))
      fitting pass true f = subst (λ (h : Hearing). Laid (standing h)) (sym (hear_in_fit pass f))
          (heard_laid c (add_both_in s c.lo c.hi) (add_both_in_laid s c.lo c.hi f))
      fitting pass false f = absurd (let z : 6 ≡ 0 = sym (ap (λ (h : Hearing). h.number) (hear_in_unfit pass f)) ∙ e in omega arith)

-- ---- a claim heard, by a store in order

-- lo and hi where they stand among the keys l
abbrev pub standing_in : Claim → List ℕ → Grown
standing_in c l = grown (store_of l) (position c.lo l) (position c.hi l)

-- own has two keys where the ends stand side by side
two_places : (n : ℕ) → eqb n 1 ≡ eqb (n + 1) 2
two_places n = ⊎_elim {C = eqb n 1 ≡ eqb (n + 1) 2}
    (λ (e : n ≡ 1). eq-eqb n 1 e ∙ sym (eq-eqb (n + 1) 2 (omega arith)))
    (λ (f : n ≡ 1 → ⊥). ne_eqb n 1 f ∙ sym (ne_eqb (n + 1) 2 (λ (e : n + 1 ≡ 2). f (omega arith))))
    (eq_or_ne n 1)

-- The third key, once the ends are added: it is told where it is wanted, and added where there is space.
module _ (l : List ℕ) (rise : Rising l) (c : Claim) (ordered : c.lo ≤ c.hi) where
  abbrev both : List ℕ
  both = with_ends c l

  both_rise : Rising both
  both_rise = with_ends_rising c l rise

  tells_wanted : tells_third (position c.lo both) (position c.hi both) c ≡ wants_middle c both
  tells_wanted = ap (λ (t : Bool). eqb c.cnt 3 && (t && middle_inside c)) (two_places (position c.hi both - position c.lo both))

  module _ (w : Wanted c (with_ends c l)) where
    missing : Memᴰ (middle_key c) both → ⊥
    missing = wanted_missing c l rise ordered w

    one_more : length (insert (middle_key c) both) ≡ suc (length both)
    one_more = length_insert_missing (middle_key c) both missing

    third_fits : length both < limit
        → third_heard (standing_in c both) (add_in (store_of both) (middle_key c)) ≡ ends_heard (standing_in c (insert (middle_key c) both))
    third_fits h =
        let first : position c.lo both ≡ position c.lo (insert (middle_key c) both) =
        sym (position_insert_le c.lo (middle_key c) both (omega (arith, w.above))) in
        let last : position c.hi both + ((store_of (insert (middle_key c) both)).count - (store_of both).count) ≡ position c.hi (insert (middle_key c) both) =
        rw (count_store_of (insert (middle_key c) both), count_store_of both)
        (omega (arith, one_more, position_insert_missing c.hi (middle_key c) both w.below missing)) in
        rw (add_in_fits both both_rise (middle_key c) (omega (arith, one_more)))
        (λ i. record { number = 0; store = store_of (insert (middle_key c) both); first = first i; last = last i })

    third_full : limit ≤ length both → third_heard (standing_in c both) (add_in (store_of both) (middle_key c)) ≡ ends_heard (standing_in c both)
    third_full h =
        let last : position c.hi both + ((store_of both).count - (store_of both).count) ≡ position c.hi both = omega arith in
        rw (add_in_full both both_rise (middle_key c) (omega (arith, one_more)))
        (λ i. record { number = 0; store = store_of both; first = position c.lo both; last = last i })

  heard_store : heard c (standing_in c (with_ends c l)) ≡ ends_heard (standing_in c (hear c l))
  unfolding third
  heard_store = rw tells_wanted (go (wants_middle c both) refl)
    where
      space : (t : Bool) → has_space both ≡ t → Wanted c both
          → third_heard (standing_in c both) (add_in (store_of both) (middle_key c)) ≡ ends_heard (standing_in c (insert_all (cond t (middle_key c ∷ []) []) both))
      space true e w = third_fits w (ltb-true (length both) limit e)
      space false e w = third_full w (ltb-false (length both) limit e)

      go : (t : Bool) → wants_middle c both ≡ t
          → cond t (third_heard (standing_in c both) (add_in (store_of both) (middle_key c))) (ends_heard (standing_in c both))
          ≡ ends_heard (standing_in c (insert_all (cond (t && has_space both) (middle_key c ∷ []) []) both))
      go true e = space (has_space both) refl (wanted c both e)
      go false e = refl

module _ (l : List ℕ) (rise : Rising l) (c : Claim) (good : Passes c) where
  passed : judged c ≡ 0
  passed = judged_first_no c ∙ passes_first_no c good

  pub hear_in_fits : length (with_ends c l) ≤ limit → hear_in (store_of l) c ≡ ends_heard (standing_in c (hear c l))
  hear_in_fits h =
      let g = add_both_in_fits l rise c.lo c.hi good.ordered h in
      hear_in_fit (store_of l) c passed (ap (λ (x : Grown). x.fits) g) ∙ (ap (heard c) g ∙ heard_store l rise c good.ordered)

  pub hear_in_full : limit < length (with_ends c l) → hear_in (store_of l) c ≡ unheard (store_of l) 6
  hear_in_full h = hear_in_unfit (store_of l) c passed (ap (λ (x : Grown). x.fits) (add_both_in_full l rise c.lo c.hi good.ordered h))

-- ---- a claim made

module _ (l : List ℕ) (short : length l ≤ limit) where
  -- all sums of a store in order are right
  right : RightTo l (store_of l).sums (length l)
  right = right_store l short

  pub within_store : (i j : ℕ) → within (store_of l) i j ≡ (leb i j && ltb j (length l))
  within_store i j =
      rw (count_store_of l, length_keys_store_of l short, length_sums_store_of l short, le-leb (length l) limit short)
      (ap (λ (t : Bool). leb i j && t) (and-true (ltb j (length l))))

  pub make_in_store : (i j : ℕ) → make_in (store_of l) i j
      ≡ cond (leb i j && ltb j (length l)) (record { number = 0; claim = claim_of i j l }) (record { number = 7; claim = no_claim })
  unfolding make_in
  make_in_store i j = rw (within_store i j) (go (leb i j && ltb j (length l)) refl)
    where
      go : (t : Bool) → (leb i j && ltb j (length l)) ≡ t
          → cond {A = Made} t (record { number = 0; claim = claim_by (store_of l).keys (store_of l).sums i j }) (record { number = 7; claim = no_claim })
          ≡ cond t (record { number = 0; claim = claim_of i j l }) (record { number = 7; claim = no_claim })
      go true e =
          ap (λ (c : Claim). record { number = 0; claim = c })
          (claim_by_right l (store_of l).sums (length l) right i j
          (leb-true i j (and_left (leb i j) (ltb j (length l)) e)) (ltb-true j (length l) (and_right (leb i j) (ltb j (length l)) e)))
      go false e = refl

-- ---- the answer

-- it is no refusal, whatever keys and sums are
pub answer_at_number : (keys sums : List ℕ) (first last : ℕ) (c : Claim) → number_of (answer_at keys sums first last c) ≡ 0
answer_at_number keys sums first last c = number_of_decide (claim_by keys sums first last) c (help_in keys sums first last) (go (ltb (first + 1) last))
  where
    helps : (t : Bool) (a b d : Claim) → number_of (cond t (One a) (Two b d)) ≡ 0
    helps true a b d = refl
    helps false a b d = refl

    go : (t : Bool) → number_of (cond t (help_by keys sums (first + 1) (last - 1)) Match) ≡ 0
    go true = helps (ltb (last - 1 - (first + 1)) 3) (claim_by keys sums (first + 1) (last - 1))
        (claim_by keys sums (first + 1) (first + 1 + z_of (first + 1) (last - 1))) (claim_by keys sums (first + 1 + z_of (first + 1) (last - 1) + 1) (last - 1))
    go false = refl

-- where lo and hi are held, and the sums right as far as hi stands

module _ (l sums : List ℕ) (mark : ℕ) (r : RightTo l sums mark) where
  help_right : (a b : ℕ) → a ≤ b → b < mark → help_by (store_of l).keys sums a b ≡ help a b l
  help_right a b h g = go (ltb (b - a) 3) refl
    where
      by : ℕ → ℕ → Claim
      by i j = claim_by (store_of l).keys sums i j

      go : (t : Bool) → ltb (b - a) 3 ≡ t
          → cond t (One (by a b)) (Two (by a (a + z_of a b)) (by (a + z_of a b + 1) b))
          ≡ cond t (One (claim_of a b l)) (Two (claim_of a (a + z_of a b) l) (claim_of (a + z_of a b + 1) b l))
      go true e = ap One (claim_by_right l sums mark r a b h g)
      go false e =
          let far : 3 ≤ b - a = ltb-false (b - a) 3 e in
          ap₂ Two (claim_by_right l sums mark r a (a + z_of a b) (omega arith) (omega arith)) (claim_by_right l sums mark r (a + z_of a b + 1) b (omega arith) g)

  module _ (rise : Rising l) (c : Claim) (good : Passes c) (held_lo : Memᴰ c.lo l) (held_hi : Memᴰ c.hi l) (read : position c.hi l < mark) where
    first_le_last : position c.lo l ≤ position c.hi l
    first_le_last = position_mono c.lo c.hi l good.ordered

    decide_right : (same? more? : Bool) → same (own c l) c ≡ same? → ltb (own c l).cnt c.cnt ≡ more?
        → cond same? Match (cond more? (Ask (own c l)) (help_in (store_of l).keys sums (position c.lo l) (position c.hi l)))
        ≡ cond same? Match (cond more? (Ask (own c l)) (help (position c.lo l + 1) (position c.hi l - 1) l))
    decide_right true more? e f = refl
    decide_right false true e f = refl
    decide_right false false e f =
        let room : position c.lo l + 1 ≤ position c.hi l - 1 = helper_positions c l rise good held_lo held_hi e f in
        rw (lt-ltb (position c.lo l + 1) (position c.hi l) (omega arith))
        (help_right (position c.lo l + 1) (position c.hi l - 1) room (omega arith))

    pub answer_at_right : answer_at (store_of l).keys sums (position c.lo l) (position c.hi l) c ≡ answer c l
    unfolding answer
    answer_at_right =
        ap (λ (o : Claim). decide o c (help_in (store_of l).keys sums (position c.lo l) (position c.hi l)))
        (claim_by_right l sums mark r (position c.lo l) (position c.hi l) first_le_last read)
        ∙ decide_right (same (own c l) c) (ltb (own c l).cnt c.cnt) refl refl

module _ (l : List ℕ) (short : length l ≤ limit) (rise : Rising l) (c : Claim) (good : Passes c)
    (held_lo : Memᴰ c.lo l) (held_hi : Memᴰ c.hi l) where
  last_lt : position c.hi l < length l
  last_lt = (get_d_position c.hi l rise held_hi).0

  -- where a key is sought
  place : (k : ℕ) → (place_in (store_of l).keys (store_of l).count k).at ≡ position k l
  place k = rw (count_store_of l) (ap (λ (p : Place). p.at) (place_in_store l rise k))

  pub answer_in_store : answer_in (store_of l) c ≡ answer c l
  unfolding answer_in
  answer_in_store =
      let le : position c.lo l ≤ position c.hi l = position_mono c.lo c.hi l good.ordered in
      let w : within (store_of l) (position c.lo l) (position c.hi l) ≡ true =
      within_store l short (position c.lo l) (position c.hi l)
      ∙ and_both (leb (position c.lo l) (position c.hi l)) (ltb (position c.hi l) (length l))
      (le-leb (position c.lo l) (position c.hi l) le) (lt-ltb (position c.hi l) (length l) last_lt) in
      rw (place c.lo, place c.hi, w)
      (answer_at_right l (store_of l).sums (length l) (right_store l short) rise c good held_lo held_hi last_lt)

-- ---- the reply

module _ (m : Marked) (c : Claim) where
  -- refused: the store is what it was
  pub reply_in_kept : (number_of (reply_in m c).answer ≡ 0 → ⊥) → (reply_in m c).marked ≡ m
  unfolding reply_in
  reply_in_kept = settle_kept (λ (r : RepliedIn). number_of r.answer) (λ (r : RepliedIn). r.marked)
      (answered c (heard_by m c) ready) (λ n. record { marked = m; answer = Refused n })
      (answer_at_number ready.store.keys ready.store.sums (heard_by m c).first (heard_by m c).last c) (λ n. refl) (heard_by m c).number
    where
      ready : Marked
      ready = ready_to m (heard_by m c) (mark_heard m.mark m.store.count (heard_by m c).store.count (heard_by m c).first)

  pub reply_in_judged : (judged c ≡ 0 → ⊥) → reply_in m c ≡ record { marked = m; answer = Refused (judged c) }
  unfolding reply_in
  reply_in_judged f = rw (hear_in_judged (store_with m.store.keys m.store.count) c f, ne_eqb (judged c) 0 f)

module _ (l : List ℕ) (short : length l ≤ limit) (rise : Rising l) (m : Marked) (o : MarkedOf l m) (c : Claim) (good : Passes c) where
  -- its keys are those of the store in order
  keys_are : store_with m.store.keys m.store.count ≡ store_of l
  keys_are = ap₂ store_with o.keys (o.count ∙ sym (count_store_of l)) ∙ store_with_store_of l short

  pub reply_in_full : limit < length (with_ends c l) → reply_in m c ≡ record { marked = m; answer = Refused 6 }
  unfolding reply_in
  reply_in_full h = rw (ap (λ (s : Store). hear_in s c) keys_are ∙ hear_in_full l rise c good h)

  -- what was added stands from lo on, so the sums before it stay right
  module _ (fits : length (with_ends c l) ≤ limit) where
    abbrev after : List ℕ
    after = hear c l

    abbrev first : ℕ
    first = position c.lo after

    abbrev last : ℕ
    last = position c.hi after

    heard_is : heard_by m c ≡ ends_heard (standing_in c after)
    heard_is = ap (λ (s : Store). hear_in s c) keys_are ∙ hear_in_fits l rise c good fits

    -- the mark once the claim is heard
    abbrev known : ℕ
    known = mark_heard m.mark m.store.count (store_of after).count first

    front : take first after ≡ take first l
    front =
        let least : (k : ℕ) → Memᴰ k (adding c l) → c.lo ≤ k = λ k e. (adding_range c l good.ordered k e).0 in
        rw (position_insert_all c.lo (adding c l) l least) (take_insert_all c.lo (adding c l) l least)

    known_right : RightTo after m.store.sums known
    known_right = go (eqb (store_of after).count m.store.count) refl
      where
        grown : length l ≤ length after
        grown = length_hear_ge c l

        go : (t : Bool) → eqb (store_of after).count m.store.count ≡ t → RightTo after m.store.sums (cond t m.mark (min m.mark first))
        go true e =
            let same : length after ≡ length l = sym (count_store_of after) ∙ (eqb-true (store_of after).count m.store.count e ∙ o.count) in
            subst (λ (x : List ℕ). RightTo x m.store.sums m.mark) (sym (hear_same c l rise (omega arith))) o.sums
        go false e =
            let less : min m.mark first ≤ m.mark = omega arith in
            let low : min m.mark first ≤ first = omega arith in
            right_grown l after m.store.sums (min m.mark first) (right_less l m.store.sums m.mark (min m.mark first) o.sums less) grown
            (sym (take-take (min m.mark first) first after low)
            ∙ (ap (take (min m.mark first)) front ∙ take-take (min m.mark first) first l low))

    held : last < length after
    held = (get_d_position c.hi after (hear_rising c l rise) (hear_hi c l)).0

    -- .. and they are right up to hi once those are worked out
    ready_right : RightTo after (resummed (store_of after).keys m.store.sums known (last + 1)) (max known (last + 1))
    ready_right = ⊎_elim {C = RightTo after (resummed (store_of after).keys m.store.sums known (last + 1)) (max known (last + 1))}
        (λ (h : last + 1 < known).
        let most : max known (last + 1) ≡ known = omega arith in
        rw (most, resummed_past (store_of after).keys m.store.sums known (last + 1) h) known_right)
        (λ (h : known ≤ last + 1).
        let most : max known (last + 1) ≡ last + 1 = omega arith in
        rw most (resummed_right after (hear_fits c l fits) m.store.sums known (last + 1) known_right h (omega (arith, held))))
        (lt_or_le (last + 1) known)

    pub reply_in_fits : MarkedOf (hear c l) (reply_in m c).marked × ((reply_in m c).answer ≡ reply c l)
    unfolding reply_in
    reply_in_fits =
        rw heard_is (
          record { keys = refl; count = count_store_of after; sums = ready_right },
          answer_at_right after (resummed (store_of after).keys m.store.sums known (last + 1)) (max known (last + 1)) ready_right
              (hear_rising c l rise) c good (hear_lo c l) (hear_hi c l) (omega arith),
        )
