-- A round on words (src/flat.rt): laws for the ways that the code goes, over the definitions of specs/Core, and for `round_words` over those of `rule`,
-- specs/Call. In order of the code. Assumes nothing.
use Rattle.std.specs.Prelude.{Result, Ok, Err}
use Rattle.std.specs.Result.{result_unwrap_or}
use Prim.Native.Nat.{ℕ, ◌+◌, ◌-◌, ◌*◌, ◌≤◌, ◌<◌}
use mathlib.Core.Bool.{Bool, true, false, not}
use mathlib.Core.List.{List}
use mathlib.Core.Path.{◌≡◌, refl, sym, ap, ap₂, ◌∙◌, subst}
use native.Mathlib.Omega.{arith}
use borrow.Author.Tests.{le-leb, lt-leb, ne_eqb, not-false}
use lib.Dec.{ltb}
use lib.ListN.{length, length-map}
use Rattle.keys.specs.declared.store.Store.{Store}
use Rattle.keys.specs.Store.{limit, Sized, keys_of, store_of}
use Rattle.keys.specs.Lent.{ordered_in, summed_in, store_by, marked_all}
use Rattle.keys.proofs.Rising.{Rising, rising_true}
use Rattle.keys.proofs.StoreLaws.{in_order_rising, store_of_keys_of}
use Rattle.keys.proofs.LentLaws.{summed_in_in_order, summed_in_ordered, ordered_in_limit, ordered_in_rising}
use Rattle.claims.specs.declared.claim.Claim.{Claim}
use Rattle.claims.specs.declared.refusal.Refusal.{Refusal}
use Rattle.claims.specs.Answer.{Made, made_by}
use Rattle.claims.specs.Claim.{no_claim}
use Rattle.claims.specs.Question.{first_no}
use Rattle.claims.specs.Refusal.{value_told}
use Rattle.claims.specs.Lent.{make_in}
use Rattle.rule.specs.Round.{union, Line, transcript}
use Rattle.rule.specs.Call.{round_questions, round_by, met, records_in, met_words}
use Rattle.rule.proofs.CallLaws.{RoundYes, round_questions_yes, met_done, met_refused, met_words_done, met_words_refused}
use Rattle.merging.specs.Merge.{merged}
use Rattle.merging.proofs.MergeLaws.{merged_union}
use Rattle.transcript.specs.declared.flat.Reached.{Reached}
use Rattle.transcript.specs.Core.{Log, log_with, put_record, put_whole}
use Rattle.transcript.specs.Core.{Core, core_of, step, finish, settled, opened, reopened, both, asked, core_by, settled_at, Stepped}
use Rattle.transcript.proofs.StepLaws.{length_step, head_step, tail_step, finish_on, steps_off, length_put_whole, tail_put_whole, opened_bound}
use Rattle.transcript.proofs.CoreLaws.{Whole, whole_both}

-- ---- a store whose parts are lent

module _ (s : Store) (keys sums : List ℕ) (count : ℕ) (lent : (keys ≡ s.keys) × (sums ≡ s.sums) × (count ≡ s.count)) where
  lent_is : store_by keys sums count ≡ s
  lent_is = λ i. record { keys = lent.0 i; sums = lent.1 i; count = lent.2 i }

  pub lent_summed : (a : Bool) → a ≡ summed_in keys sums count → a ≡ summed_in s.keys s.sums s.count
  lent_summed a e = e ∙ ap (λ (x : Store). summed_in x.keys x.sums x.count) lent_is

-- ---- `asked`

-- a store that `summed_in` found in order
module _ (s : Store) (a : Bool) (said : a ≡ summed_in s.keys s.sums s.count) (yes : not a ≡ false) where
  in_order_lem : ordered_in s.keys s.count ≡ true
  in_order_lem = summed_in_ordered s.keys s.sums s.count (sym said ∙ not-false a yes)

  pub found_few : s.count ≤ limit
  found_few = ordered_in_limit s.keys s.count in_order_lem

  found_rising : Rising (keys_of s)
  found_rising = rising_true (keys_of s) (ordered_in_rising s.keys s.count in_order_lem)

-- a and b are what `summed_in` said of the left store and of the right one, n what `union_count_in` counted
module _ (s t : Store) (records : ℕ)
    (a : Bool) (said_a : a ≡ summed_in s.keys s.sums s.count) (yes_a : not a ≡ false)
    (b : Bool) (said_b : b ≡ summed_in t.keys t.sums t.count) (yes_b : not b ≡ false)
    (n : ℕ) (merged-count : n ≡ length (merged ltb (keys_of s) (keys_of t))) where
  counted : n ≡ length (union (keys_of s) (keys_of t))
  counted = merged-count ∙ ap length (merged_union (keys_of s) (keys_of t) (found_rising s a said_a yes_a) (found_rising t b said_b yes_b))

  pub asked_8 : limit < n → 8 ≡ asked s t records
  unfolding asked
  asked_8 h = rw (← said_a, not-false a yes_a, ← said_b, not-false b yes_b, ← counted, lt-leb n limit h)

  pub asked_9 : n ≤ limit → records < 2 * n → 9 ≡ asked s t records
  unfolding asked
  asked_9 h g = rw (← said_a, not-false a yes_a, ← said_b, not-false b yes_b, ← counted, le-leb n limit h, lt-leb (2 * n) records g)

  pub asked_0 : n ≤ limit → 2 * n ≤ records → 0 ≡ asked s t records
  unfolding asked
  asked_0 h g = rw (← said_a, not-false a yes_a, ← said_b, not-false b yes_b, ← counted, le-leb n limit h, le-leb (2 * n) records g)

-- ---- `put_whole`

unwrapped : (m : Result Claim Refusal) → result_unwrap_or m no_claim ≡ value_told no_claim m
unwrapped (Ok c) = refl
unwrapped (Err r) = refl

module _ (s : Store) (words : List ℕ) (at sender : ℕ) where
  pub whole_some : (s.count ≡ 0 → ⊥) → (keys sums : List ℕ) (count : ℕ) → (keys ≡ s.keys) × (sums ≡ s.sums) × (count ≡ s.count)
      → (m : Result Claim Refusal) → made_by m ≡ make_in (store_by keys sums count) 0 (s.count - 1) → (c : Claim) → c ≡ result_unwrap_or m no_claim
      → (w : List ℕ) (end : ℕ) → log_with w end ≡ put_record (log_with words at) sender c → log_with w end ≡ put_whole s (log_with words at) sender
  unfolding put_whole
  whole_some f keys sums count lent m made c told w end put =
      let same : c ≡ (make_in s 0 (s.count - 1)).claim =
      told ∙ unwrapped m ∙ ap (λ (x : Made). x.claim) (made ∙ ap (λ (x : Store). make_in x 0 (s.count - 1)) (lent_is s keys sums count lent)) in
      rw (ne_eqb s.count 0 f, ← same) put

-- where the next record goes is among the records as they are then
pub whole_fits : (s : Store) (words : List ℕ) (at sender : ℕ) (w : List ℕ) (end : ℕ)
    → log_with w end ≡ put_whole s (log_with words at) sender → at ≤ records_in words → end ≤ records_in w
whole_fits s words at sender w end h fits =
    let same : length w ≡ length words = ap (λ (l : Log). length l.words) h ∙ length_put_whole s (log_with words at) sender in
    let last : end ≡ (put_whole s (log_with words at) sender).tail = ap (λ (l : Log). l.tail) h in
    omega (arith, tail_put_whole s (log_with words at) sender fits)

-- ---- `deliver_all`

-- what the code says of a state is the state
stepped_core : (r : Reached) (left right : Store) (words : List ℕ) (head : ℕ) (s : Core) → Stepped r left right words s
    → head ≡ s.head → core_by left right words head r ≡ s
stepped_core r left right words head s h e = λ i. core_of (h.left_is i) (h.right_is i) (h.log_is i) (e i)

-- a turn of the loop
module _ (s : Core) (r : Reached) (left right : Store) (words : List ℕ) (h : Stepped r left right words (step s))
    (less : s.head < s.log.tail) (fits : s.log.tail ≤ records_in s.log.words) where
  same : length words ≡ length s.log.words
  same = ap (λ (l : Log). length l.words) h.log_is ∙ length_step s

  pub turn_fits : r.tail ≤ records_in words
  turn_fits = omega (arith, same, tail_step s fits, ap (λ (l : Log). l.tail) h.log_is)

  pub turn_on : (start : Core) → finish start ≡ finish s → (head : ℕ) → head ≡ s.head + 1 → finish start ≡ finish (core_by left right words head r)
  turn_on start e head on =
      e ∙ (finish_on s less fits ∙ ap finish (sym (stepped_core r left right words head (step s) h (on ∙ sym (head_step s)))))

-- its end, where no record waits
pub stopped : (start : Core) (left right : Store) (words : List ℕ) (head : ℕ) (r : Reached) → r.tail ≤ head
    → finish start ≡ finish (core_by left right words head r) → Stepped r left right words (finish start)
stopped start left right words head r h e =
    let s : Core = core_by left right words head r in
    rw (e ∙ steps_off (records_in words - head) s h) (record { left_is = refl; right_is = refl; log_is = refl })

-- ---- both halves, by what `put_whole` and `deliver_half` say

module _ (s t : Store) (words w : List ℕ) (end : ℕ) (put : log_with w end ≡ put_whole s (log_with words 0) 0)
    (tail : ℕ) (left right : Store) (after : List ℕ)
    (done : Stepped (settled_at left right tail) left right after (settled (finish (core_by s t w 0 (settled_at s t end))))) where
  -- the first half
  first : Stepped (settled_at left right tail) left right after (settled (finish (opened s t words)))
  unfolding opened
  first = subst (λ (l : Log). Stepped (settled_at left right tail) left right after (settled (finish (core_of (marked_all s) (marked_all t) l 0)))) put done

  -- .. stays among the records
  pub half_fits : tail ≤ records_in after
  half_fits =
      let b = opened_bound s t words in
      let same : length after ≡ length words = ap (λ (l : Log). length l.words) first.log_is ∙ b.0 in
      omega (arith, ap (λ (l : Log). l.tail) first.log_is, b.1)

  -- .. and the second goes on from it
  pub both_lem : (w' : List ℕ) (end' : ℕ) → log_with w' end' ≡ put_whole right (log_with after tail) 1
      → (tail' : ℕ) (left' right' : Store) (after' : List ℕ)
      → Stepped (settled_at left' right' tail') left' right' after' (settled (finish (core_by left right w' tail (settled_at left right end'))))
      → Stepped (settled_at left' right' tail') left' right' after' (both s t words)
  unfolding both reopened
  both_lem w' end' put' tail' left' right' after' done' =
      let half : Core = settled (finish (opened s t words)) in
      let from : core_by left right after half.head (settled_at left right tail) ≡ half =
      stepped_core (settled_at left right tail) left right after half.head half first refl in
      let again : core_by left right w' tail (settled_at left right end') ≡ reopened (core_by left right after half.head (settled_at left right tail)) =
      ap (λ (l : Log). core_of (marked_all left) (marked_all right) l tail) put' in
      subst (λ (c : Core). Stepped (settled_at left' right' tail') left' right' after' (settled (finish c))) (again ∙ ap reopened from) done'

-- ---- `round_words`: from the core to the rule

module _ (s t : Store) (sized_s : Sized s) (sized_t : Sized t) (words : List ℕ) (n : ℕ) (put : n ≡ asked s t (records_in words)) where
  -- the questions that the code puts are those of a round
  first_no_lem : n ≡ first_no (round_questions s t (records_in words))
  unfolding asked
  first_no_lem = put ∙ rw (summed_in_in_order s sized_s.keys, summed_in_in_order t sized_t.keys)

  module _ (above : 0 < n) where
    some_no : first_no (round_questions s t (records_in words)) ≡ 0 → ⊥
    some_no e = omega (arith, first_no_lem)

    pub met_not : record { number = n; left = s; right = t; deliveries = 0 } ≡ met s t (records_in words)
    met_not = ap (λ (x : ℕ). record { number = x; left = s; right = t; deliveries = 0 }) first_no_lem ∙ sym (met_refused s t (records_in words) some_no)

    pub words_not : words ≡ met_words s t words
    words_not = sym (met_words_refused s t words some_no)

  -- where every answer is yes: the core is the round
  module _ (zero-no : n ≡ 0) (left right : Store) (after : List ℕ) (tail : ℕ)
      (done : Stepped (settled_at left right tail) left right after (both s t words)) where
    none : first_no (round_questions s t (records_in words)) ≡ 0
    none = sym first_no_lem ∙ zero-no

    whole : Whole words (round_by s t).stores (transcript (round_by s t)) (both s t words)
    whole =
        let yes : RoundYes s t (records_in words) = round_questions_yes s t (records_in words) none in
        rw (ap₂ (λ (a b : Store). both a b words) (store_of_keys_of s sized_s yes.left) (store_of_keys_of t sized_t yes.right))
        (whole_both words (keys_of s) (keys_of t) (in_order_rising s yes.left) (in_order_rising t yes.right) yes.fits yes.room)

    pub met_round : record { number = 0; left = left; right = right; deliveries = tail } ≡ met s t (records_in words)
    met_round =
        let a : marked_all left ≡ marked_all (store_of (round_by s t).stores.left) = done.left_is ∙ whole.left_is in
        let b : marked_all right ≡ marked_all (store_of (round_by s t).stores.right) = done.right_is ∙ whole.right_is in
        let d : tail ≡ length (round_by s t).lines =
        ap (λ (l : Log). l.tail) (done.log_is ∙ whole.log_is) ∙ length-map (round_by s t).lines (λ (x : Line). x.delivery) in
        (λ i. record { number = 0; left = (a i).store; right = (b i).store; deliveries = d i })
        ∙ sym (met_done s t (records_in words) none)

    pub words_round : after ≡ met_words s t words
    words_round = ap (λ (l : Log). l.words) (done.log_is ∙ whole.log_is) ∙ sym (met_words_done s t words none)
