-- The public calls (src/calls.rt): one law for each way that the code goes, from the calls on a lent run to the definitions of specs/Call.
-- A store that passes question 1 is that of its keys, so the laws of LentLaws apply. Assumes nothing.
use mathlib.Core.Path.{◌≡◌, refl, sym, ◌∙◌, ap, subst}
use mathlib.Core.Bool.{Bool, true, false, cond, ◌&&◌, true≢false}
use mathlib.Core.Logic.{⊎_elim}
use mathlib.Core.List.{List, [], ◌∷◌, ◌++◌}
use Prim.Native.Nat.{ℕ, ◌+◌, ◌≤◌, ◌<◌}
use native.Mathlib.Omega.{arith}
use borrow.Author.Tests.{lt-ltb, le-ltb, ne_eqb, eqb-true}
use lib.Dec.{ltb, leb, eqb}
use lib.ListN.{length}
use Rattle.std.specs.Prelude.{Option, Some, None}
use Rattle.keys.specs.declared.store.Store.{Store}
use Rattle.keys.specs.Store.{limit, Sized, keys_of, store_of, in_order, position, insert, insert_all}
use Rattle.keys.specs.Lent.{renewed_from, store_by, Marked, marked_all, finish_in, store_with, Grown, grown, unfit, grown_with, add_in}
use Rattle.keys.specs.declared.lent.Added.{Added}
use Rattle.keys.proofs.Tests.{lt_or_le, eq_or_ne}
use Rattle.keys.proofs.Rising.{Rising}
use Rattle.keys.proofs.Insert.{length_insert_ge}
use Rattle.keys.proofs.Position.{position_le, take_insert}
use Rattle.keys.proofs.StoreLaws.{count_store_of, in_order_count, in_order_rising, length_keys_of, store_of_keys_of}
use Rattle.keys.proofs.SumLaws.{RightTo, right_store, right_less, right_grown, MarkedOf, marked_all_lem, finish_marked}
use Rattle.keys.proofs.LentLaws.{store_with_store_of, add_in_fits, add_in_full}
use Rattle.claims.specs.declared.refusal.Refusal.{Refusal}
use Rattle.claims.specs.Refusal.{refusal_number}
use Rattle.claims.specs.Answer.{Answer, Refused, Made, Replied}
use Rattle.claims.specs.declared.claim.Claim.{Claim}
use Rattle.claims.specs.Claim.{claim_of, no_claim}
use Rattle.claims.specs.Question.{Question, first_no, settle, question1, question6, question7, claim_questions}
use Rattle.claims.specs.Reply.{ends, with_ends, hear, reply, number_of}
use Rattle.claims.specs.Call.{judged, entered, made, reply_questions, replied, Replying}
use Rattle.claims.specs.Lent.{make_in, RepliedIn, reply_in}
use Rattle.claims.proofs.QuestionLaws.{Passes, passes, claim_questions_numbered, first_no_zero, first_no_append_zero, first_no_append_no}
use Rattle.claims.proofs.RefusalLaws.{refusal_number_ne, settle_refused_by}
use Rattle.claims.proofs.ReplyLaws.{number_of_answer, hear_fits}
use Rattle.claims.proofs.LentLaws.{make_in_store, reply_in_kept, reply_in_judged, reply_in_fits, reply_in_full}

-- the number that the answer stands for follows from the answer
replying : (s : Store) (c : Claim) (r : Replied) → r ≡ replied s c → Replying s c r
unfolding replied
replying s c r e = record { result = e; number = ap (λ (x : Replied). number_of x.answer) e ∙ go (eqb n 0) refl }
  where
    n : ℕ
    n = first_no (reply_questions s c)

    done : Replied
    done = record { store = store_of (hear c (keys_of s)); answer = reply c (keys_of s) }

    go : (t : Bool) → eqb n 0 ≡ t → number_of (cond t done (record { store = s; answer = Refused n })).answer ≡ n
    go true z = number_of_answer c (hear c (keys_of s)) ∙ sym (eqb-true n 0 z)
    go false z = refl

-- ---- question 1 answered no

module _ (s : Store) (r : Refusal) (no : refusal_number r ≡ first_no (question1 s ∷ [])) where
  -- then no further question is put
  first_is : (qs : List Question) → first_no (question1 s ∷ qs) ≡ refusal_number r
  first_is qs = first_no_append_no (question1 s ∷ []) qs (λ z. refusal_number_ne r (no ∙ z)) ∙ sym no

  pub entered_1 : (k : ℕ) → record { number = refusal_number r; store = s } ≡ entered s k
  unfolding entered
  entered_1 k = sym (settle_refused_by r _ (λ n. record { number = n; store = s }) (first_is (question6 (k ∷ []) (keys_of s) ∷ [])))

  pub made_1 : (i j : ℕ) → record { number = refusal_number r; claim = no_claim } ≡ made s i j
  unfolding made
  made_1 i j = sym (settle_refused_by r _ (λ n. record { number = n; claim = no_claim }) (first_is (question7 i j s.count ∷ [])))

  pub replied_1 : (c : Claim) → Replying s c (record { store = s; answer = Refused (refusal_number r) })
  unfolding replied
  replied_1 c = replying s c (record { store = s; answer = Refused (refusal_number r) })
      (sym (settle_refused_by r _ (λ n. record { store = s; answer = Refused n }) (first_is (claim_questions c ++ (question6 (ends c) (keys_of s) ∷ [])))))

-- ---- question 1 answered yes: the store is that of its keys

module _ (s : Store) (sized : Sized s) (yes : 0 ≡ first_no (question1 s ∷ [])) where
  in_order_lem : in_order s ≡ true
  in_order_lem = (first_no_zero (question1 s) [] (omega arith) (sym yes)).0

  rise : Rising (keys_of s)
  rise = in_order_rising s in_order_lem

  own_store : s ≡ store_of (keys_of s)
  own_store = store_of_keys_of s sized in_order_lem

  short : length (keys_of s) ≤ limit
  short = omega (arith, length_keys_of s sized.keys in_order_lem, in_order_count s in_order_lem)

  -- its keys with their count are all of it
  with_is : store_with s.keys s.count ≡ store_of (keys_of s)
  with_is = ap (λ (t : Store). store_with t.keys t.count) own_store ∙ store_with_store_of (keys_of s) short

  -- `enter`

  module _ (k : ℕ) where
    fits_is : length (insert k (keys_of s)) ≤ limit
        → add_in (store_with s.keys s.count) k ≡ grown (store_of (insert k (keys_of s))) (position k (keys_of s)) (position k (keys_of s))
    fits_is f = ap (λ (t : Store). add_in t k) with_is ∙ add_in_fits (keys_of s) rise k f

    full_is : limit < length (insert k (keys_of s)) → add_in (store_with s.keys s.count) k ≡ unfit (store_of (keys_of s))
    full_is f = ap (λ (t : Store). add_in t k) with_is ∙ add_in_full (keys_of s) rise k f

  -- .. by what adding the key told
  module _ (k : ℕ) (after : List ℕ) (found : Option Added) (gave : grown_with after s.count found ≡ add_in (store_with s.keys s.count) k) where
    pub entered_unfit : found ≡ None → record { number = 6; store = store_by after s.sums s.count } ≡ entered s k
    unfolding entered
    entered_unfit none =
        let full_told : unfit (store_with after s.count) ≡ add_in (store_with s.keys s.count) k = sym (ap (grown_with after s.count) none) ∙ gave in
        ⊎_elim {C = record { number = 6; store = store_by after s.sums s.count } ≡ entered s k}
        (λ (full : limit < length (insert k (keys_of s))).
        let kept : after ≡ s.keys = ap (λ (g : Grown). g.store.keys) (full_told ∙ full_is k full) ∙ ap (λ (t : Store). t.keys) (sym own_store) in
        rw (in_order_lem, le-ltb (length (insert k (keys_of s))) (limit + 1) (omega arith))
        (λ i. record { number = 6; store = store_by (kept i) s.sums s.count }))
        (λ (fits : length (insert k (keys_of s)) ≤ limit).
        absurd (true≢false (sym (ap (λ (g : Grown). g.fits) (full_told ∙ fits_is k fits)))))
        (lt_or_le limit (length (insert k (keys_of s))))

    -- the key fits; the sums from it on are worked out anew
    module _ (a : Added) (some : found ≡ Some a) (t : Store) (anew : t ≡ renewed_from a.first (store_by after s.sums a.count)) where
      fitted : grown (store_with after a.count) a.first a.last ≡ add_in (store_with s.keys s.count) k
      fitted = sym (ap (grown_with after s.count) some) ∙ gave

      entered_keys : length (insert k (keys_of s)) ≤ limit → record { number = 0; store = t } ≡ entered s k
      unfolding entered
      entered_keys fits =
          let l : List ℕ = keys_of s in
          let g = fitted ∙ fits_is k fits in
          let first : a.first ≡ position k l = ap (λ (x : Grown). x.first) g in
          let keys_are : after ≡ (store_of (insert k l)).keys = ap (λ (x : Grown). x.store.keys) g in
          let count_is : a.count ≡ (store_of (insert k l)).count = ap (λ (x : Grown). x.store.count) g in
          let old : RightTo l s.sums (position k l) =
          subst (λ (t : Store). RightTo l t.sums (position k l)) (sym own_store)
          (right_less l (store_of l).sums (length l) (position k l) (right_store l short) (position_le k l)) in
          let front : RightTo (insert k l) s.sums (position k l) =
          right_grown l (insert k l) s.sums (position k l) old (length_insert_ge k l) (take_insert (position k l) k l (omega arith)) in
          let done = finish_marked (insert k l) (record { store = store_by (store_of (insert k l)).keys s.sums (length (insert k l)); mark = position k l }) fits
          (record { keys = refl; count = refl; sums = front }) in
          let store_is : t ≡ store_of (insert k l) =
          anew ∙ ((λ i. renewed_from (first i) (store_by (keys_are i) s.sums ((count_is ∙ count_store_of (insert k l)) i))) ∙ done) in
          rw (in_order_lem, lt-ltb (length (insert k l)) (limit + 1) (omega arith))
          (ap (λ (x : Store). record { number = 0; store = x }) store_is)

      pub entered_fit : record { number = 0; store = t } ≡ entered s k
      entered_fit = ⊎_elim {C = record { number = 0; store = t } ≡ entered s k}
          (λ (full : limit < length (insert k (keys_of s))). absurd (true≢false (ap (λ (g : Grown). g.fits) (fitted ∙ full_is k full))))
          entered_keys
          (lt_or_le limit (length (insert k (keys_of s))))

  -- `make`

  pub made_made : (keys sums : List ℕ) (count : ℕ) → keys ≡ s.keys → sums ≡ s.sums → count ≡ s.count
      → (i j : ℕ) (r : Made) → r ≡ make_in (store_by keys sums count) i j → r ≡ made s i j
  unfolding made
  made_made keys sums count keys_are sums_are count_is i j r e =
      (e ∙ (λ t. make_in (store_by (keys_are t) (sums_are t) (count_is t)) i j))
      ∙ (ap (λ (t : Store). make_in t i j) own_store
      ∙ (make_in_store (keys_of s) short i j
      ∙ (ap (λ (n : ℕ). cond (leb i j && ltb j n) (record { number = 0; claim = claim_of i j (keys_of s) }) (record { number = 7; claim = no_claim }))
      (length_keys_of s sized.keys in_order_lem)
      ∙ rw in_order_lem (go (leb i j && ltb j s.count)))))
    where
      go : (t : Bool) → cond {A = Made} t (record { number = 0; claim = claim_of i j (keys_of s) }) (record { number = 7; claim = no_claim })
          ≡ settle (cond t 0 7) (record { number = 0; claim = claim_of i j (keys_of s) }) (λ n. record { number = n; claim = no_claim })
      go true = refl
      go false = refl

  -- `reply`

  module _ (c : Claim) where
    -- what replying gives, once all sums are worked out
    abbrev done : RepliedIn → Replied
    done r = record { store = finish_in r.marked; answer = r.answer }

    -- the store with all its sums right
    whole : MarkedOf (keys_of s) (marked_all s)
    whole = subst (λ (t : Store). MarkedOf (keys_of s) (marked_all t)) (sym own_store) (marked_all_lem (keys_of s) short)

    unmoved : finish_in (marked_all s) ≡ s
    unmoved = finish_marked (keys_of s) (marked_all s) short whole ∙ sym own_store

    replied_judged : (judged c ≡ 0 → ⊥) → done (reply_in (marked_all s) c) ≡ replied s c
    unfolding replied judged
    replied_judged f =
        let no = first_no_append_no (claim_questions c) (question6 (ends c) (keys_of s) ∷ []) f in
        ap done (reply_in_judged (marked_all s) c f)
        ∙ rw (in_order_lem, no, ne_eqb (first_no (claim_questions c)) 0 f) (λ i. record { store = unmoved i; answer = Refused (first_no (claim_questions c)) })

    module _ (pass : judged c ≡ 0) where
      good : Passes c
      unfolding judged
      good = passes c pass

      -- what is left to ask is 6
      only_6 : first_no (claim_questions c ++ (question6 (ends c) (keys_of s) ∷ [])) ≡ first_no (question6 (ends c) (keys_of s) ∷ [])
      unfolding judged
      only_6 = first_no_append_zero (claim_questions c) (question6 (ends c) (keys_of s) ∷ []) (claim_questions_numbered c) pass

      replied_fits : length (with_ends c (keys_of s)) ≤ limit → done (reply_in (marked_all s) c) ≡ replied s c
      unfolding replied
      replied_fits f =
          let (marked, answer) = reply_in_fits (keys_of s) short rise (marked_all s) whole c good f in
          let store = finish_marked (hear c (keys_of s)) (reply_in (marked_all s) c).marked (hear_fits c (keys_of s) f) marked in
          rw (in_order_lem, only_6, lt-ltb (length (insert_all (ends c) (keys_of s))) (limit + 1) (omega arith))
          (λ i. record { store = store i; answer = answer i })

      replied_full : limit < length (with_ends c (keys_of s)) → done (reply_in (marked_all s) c) ≡ replied s c
      unfolding replied
      replied_full f =
          ap done (reply_in_full (keys_of s) short rise (marked_all s) whole c good f)
          ∙ rw (in_order_lem, only_6, le-ltb (length (insert_all (ends c) (keys_of s))) (limit + 1) (omega arith))
          (λ i. record { store = unmoved i; answer = Refused 6 })

    reply_in_replied : done (reply_in (marked_all s) c) ≡ replied s c
    reply_in_replied = ⊎_elim {C = done (reply_in (marked_all s) c) ≡ replied s c}
        (λ (pass : judged c ≡ 0).
        ⊎_elim {C = done (reply_in (marked_all s) c) ≡ replied s c} (replied_full pass) (replied_fits pass) (lt_or_le limit (length (with_ends c (keys_of s)))))
        replied_judged (eq_or_ne (judged c) 0)

    -- refused: the store is what it was
    pub replied_refused : (r : Refusal) (x : Store) → record { marked = record { store = x; mark = s.count }; answer = Refused (refusal_number r) } ≡ reply_in (marked_all s) c
        → Replying s c (record { store = x; answer = Refused (refusal_number r) })
    replied_refused r x e =
        let same : (reply_in (marked_all s) c).marked ≡ marked_all s =
        reply_in_kept (marked_all s) c (λ z. refusal_number_ne r (ap (λ (t : RepliedIn). number_of t.answer) e ∙ z)) in
        let kept : x ≡ s = ap (λ (t : RepliedIn). t.marked.store) e ∙ ap (λ (m : Marked). m.store) same in
        let unchanged : finish_in (record { store = x; mark = s.count }) ≡ x = ap (λ (t : Store). finish_in (record { store = t; mark = s.count })) kept ∙ (unmoved ∙ sym kept) in
        replying s c (record { store = x; answer = Refused (refusal_number r) })
        ((λ i. record { store = sym unchanged i; answer = Refused (refusal_number r) }) ∙ (ap done e ∙ reply_in_replied))

    pub replied_told : (y : Store) (mark : ℕ) (a : Answer) → record { marked = record { store = y; mark = mark }; answer = a } ≡ reply_in (marked_all s) c
        → (x : Store) → x ≡ renewed_from mark y → Replying s c (record { store = x; answer = a })
    replied_told y mark a e x anew =
        replying s c (record { store = x; answer = a }) ((λ i. record { store = anew i; answer = a }) ∙ (ap done e ∙ reply_in_replied))
