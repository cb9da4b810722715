-- Laws of specs/Log. In order: a record in words; the first words; records stored one after the other; a round
-- on the first words, which no record of a round exceeds, and that storing its records is the round over records; one record read. Assumes nothing.
use Prim.Native.Nat.{ℕ, zero, suc, ◌*◌, ◌%◌, ◌≤◌, ◌<◌, min}
use mathlib.Core.Bool.{Bool, true, false, cond}
use mathlib.Core.List.{List, ◌∷◌, ◌++◌, append_assoc}
use mathlib.Core.Path.{◌≡◌, refl, sym, ap, ap₂, ◌∙◌, subst}
use mathlib.Core.Logic.{⊎_elim}
use native.Mathlib.Omega.{arith}
use borrow.Author.Tests.{lt-ltb, leb-true, leb-false, le-leb, lt-leb}
use lib.Dec.{leb}
use lib.ListN.{length, take, drop, get_or, set, replicate, length-replicate, length-set, length-append, length-map, take-append-drop}
use lib.Seq.{length-take-le, take-suc, drop-cons, split_at, append_snoc, set_at, drop-append-le, take-length}
use Rattle.keys.specs.declared.store.Store.{Store}
use Rattle.keys.specs.Store.{limit, in_order, keys_of, store_of}
use Rattle.keys.specs.Place.{put_at}
use Rattle.keys.proofs.StoreLaws.{in_order_rising}
use Rattle.keys.proofs.Tests.{eq_or_ne}
use Rattle.keys.proofs.PlaceLaws.{put_at_zero}
use Rattle.claims.specs.declared.claim.Claim.{Claim}
use Rattle.claims.specs.Question.{first_no, settle}
use Rattle.rule.specs.declared.delivery.Delivery.{Delivery}
use Rattle.rule.specs.Answer.{Met}
use Rattle.rule.specs.Round.{union, Line, Run, transcript}
use Rattle.rule.specs.Call.{record_width, records_in, delivery_words, round_questions, round_by, met, met_lent, met_words}
use Rattle.rule.proofs.CallLaws.{RoundYes, round_questions_yes, met_done, met_refused, round_yes_rounded, met_lent_done, met_lent_refused, met_words_done}
use Rattle.rule.proofs.Words.{length_delivery_words}
use Rattle.transcript.specs.Core.{claim_in}
use Rattle.transcript.proofs.WordsLaws.{length_over, sender_at, claim_at}
use Rattle.rounds.specs.Log.{no_delivery, delivery_in, copied, front_records, front_words, recorded}
use Rattle.rounds.proofs.Narrow.{Narrow, AllNarrow, all_narrow_get_d, round_narrow}

-- ---- a record in words

module _ (words : List ℕ) (at : ℕ) where
  pub delivery_in_some : at < records_in words → (c : Claim) → c ≡ claim_in words at
      → record { sender = get_or words (at * record_width) 0 % 256; claim = c } ≡ delivery_in words at
  unfolding delivery_in
  delivery_in_some h c e = rw (lt-ltb at (records_in words) h, e)

-- ---- the first words

module _ (words : List ℕ) (records n : ℕ) (e : n ≡ front_records words records) where
  pub length_take_front : length (take (n * record_width) words) ≡ n * record_width
  length_take_front = length-take-le (n * record_width) words (omega (arith, e))

  module _ (s t : Store) where
    pub front_met : (r : Met) → r ≡ met s t (records_in (take (n * record_width) words)) → r ≡ met s t (front_records words records)
    front_met r h =
        let k : records_in (take (n * record_width) words) ≡ front_records words records = omega (arith, e, length_take_front) in
        h ∙ ap (met s t) k

    pub front_lent : (after : List ℕ) → after ≡ met_words s t (take (n * record_width) words)
        → after ++ drop (n * record_width) words ≡ front_words s t words records
    unfolding front_words
    front_lent after h =
        ap (λ (v : List ℕ). v ++ drop (n * record_width) words) h
        ∙ ap (λ (m : ℕ). met_words s t (take (m * record_width) words) ++ drop (m * record_width) words) e

-- ---- records stored one after the other

pub length_copied : (n : ℕ) (words : List ℕ) (lent : List Delivery) → length (copied n words lent) ≡ length lent
length_copied zero words lent = refl
length_copied (suc n) words lent = length-set (copied n words lent) n _ ∙ length_copied n words lent

module _ (lent : List ℕ) where
  -- the record after those in front
  delivery_in_at : (done : List Delivery) (d : Delivery) (rest : List Delivery) → Narrow d → length (done ++ (d ∷ rest)) ≤ records_in lent
      → delivery_in (put_at lent 0 (delivery_words (done ++ (d ∷ rest)))) (length done) ≡ d
  delivery_in_at done d rest w h =
      let all : List ℕ = put_at lent 0 (delivery_words (done ++ (d ∷ rest))) in
      let same : length all ≡ length lent = length_over (done ++ (d ∷ rest)) lent h in
      let some : length done < records_in all = omega (arith, length-append done (d ∷ rest)) in
      let whole : get_or all (length done * record_width) 0 ≡ d.sender = sender_at done d rest lent in
      let byte : get_or all (length done * record_width) 0 % 256 ≡ d.sender = omega (arith, w.sender) in
      sym (delivery_in_some all (length done) some d.claim (sym (claim_at done d rest lent h w.cnt)))
      ∙ (λ i. record { sender = byte i; claim = d.claim })

  -- the records of some words, stored: the first n of them, then what stood there before
  copied_take : (ds into : List Delivery) → ((n : ℕ) → n < length ds → Narrow (get_or ds n no_delivery)) → length ds ≤ records_in lent → length ds ≤ length into
      → (n : ℕ) → n ≤ length ds → copied n (put_at lent 0 (delivery_words ds)) into ≡ take n ds ++ drop n into
  copied_take ds into narrow h g zero k = refl
  copied_take ds into narrow h g (suc n) k =
      let d : Delivery = get_or ds n no_delivery in
      let all : List ℕ = put_at lent 0 (delivery_words ds) in
      let cut : ds ≡ take n ds ++ (d ∷ drop (suc n) ds) = split_at ds n no_delivery (omega arith) in
      let long : length (take n ds) ≡ n = length-take-le n ds (omega arith) in
      let read : delivery_in all n ≡ d =
      ap₂ (λ (x : List Delivery) (m : ℕ). delivery_in (put_at lent 0 (delivery_words x)) m) cut (sym long)
      ∙ delivery_in_at (take n ds) d (drop (suc n) ds) (narrow n (omega arith)) (subst (λ (x : List Delivery). length x ≤ records_in lent) cut h) in
      ap₂ (λ (l : List Delivery) (x : Delivery). set l n x) (copied_take ds into narrow h g n (omega arith)) read
      ∙ (ap (λ (l : List Delivery). set (take n ds ++ l) n d) (drop-cons into n no_delivery (omega arith))
      ∙ (set_at (take n ds) (get_or into n no_delivery) (drop (suc n) into) d n long
      ∙ (sym (append_snoc (take n ds) d (drop (suc n) into))
      ∙ ap (λ (l : List Delivery). l ++ drop (suc n) into) (sym (take-suc ds n no_delivery (omega arith))))))

-- what is written to the first words is written to the words
put_at_take : {A : Type 0} (new lent : List A) (k : ℕ) → length new ≤ k → k ≤ length lent
    → put_at (take k lent) 0 new ++ drop k lent ≡ put_at lent 0 new
unfolding put_at
put_at_take new lent k h g =
    let a : length new ≤ length (take k lent) = omega (arith, length-take-le k lent g) in
    append_assoc new (drop (length new) (take k lent)) (drop k lent)
    ∙ ap (λ l. new ++ l) (sym (drop-append-le (length new) (take k lent) (drop k lent) a) ∙ ap (drop (length new)) (take-append-drop k lent))

-- ---- a round on the first words, and what it stores

-- the questions tell more records from fewer only below twice the limit
leb_min : (k n m : ℕ) → k ≤ m → leb k (min n m) ≡ leb k n
leb_min k n m h = go (leb k n) refl
  where
    go : (t : Bool) → leb k n ≡ t → leb k (min n m) ≡ leb k n
    go true e = let a : k ≤ n = leb-true k n e in le-leb k (min n m) (omega arith) ∙ sym e
    go false e = let a : n < k = leb-false k n e in lt-leb k (min n m) (omega arith) ∙ sym e

module _ (s t : Store) where
  u : ℕ
  u = length (union (keys_of s) (keys_of t))

  round_questions_min : (n m : ℕ) → 2 * limit ≤ m → first_no (round_questions s t (min n m)) ≡ first_no (round_questions s t n)
  unfolding u
  round_questions_min n m h = ap (λ (k : ℕ). cond (in_order s) (cond (in_order t) k 1) 1) (go (leb u limit) refl)
    where
      -- questions 8 and 9, by their answers
      last : Bool → Bool → ℕ
      last c d = cond c (cond d 0 9) 8

      go : (c : Bool) → leb u limit ≡ c → last (leb u limit) (leb (2 * u) (min n m)) ≡ last (leb u limit) (leb (2 * u) n)
      go true e = let a : u ≤ limit = leb-true u limit e in ap (last (leb u limit)) (leb_min (2 * u) n m (omega arith))
      go false e = rw e

module _ (s t : Store) (words : List ℕ) (long : 2 * limit ≤ records_in words) where
  pub met_front : (n : ℕ) → met s t (front_records words n) ≡ met s t n
  unfolding met
  met_front n =
      let by : Run = round_by s t in
      ap (λ (k : ℕ).
      settle k (record { number = 0; left = store_of by.stores.left; right = store_of by.stores.right; deliveries = length by.lines })
      (λ x. record { number = x; left = s; right = t; deliveries = 0 })) (round_questions_min s t n (records_in words) long)

  -- the records of a round that is not refused are at most so many as lent, and as there are words for
  lines_fit : (n : ℕ) → RoundYes s t n → length (transcript (round_by s t)) ≤ front_records words n
  lines_fit n y =
      let few : length (round_by s t).lines ≤ 2 * length (union (keys_of s) (keys_of t)) = (round_yes_rounded s t n y).bound in
      let count : length (transcript (round_by s t)) ≡ length (round_by s t).lines = length-map (round_by s t).lines (λ (x : Line). x.delivery) in
      omega (arith, y.room, y.fits)

  front_words_done : (n : ℕ) → first_no (round_questions s t n) ≡ 0 → front_words s t words n ≡ put_at words 0 (delivery_words (transcript (round_by s t)))
  unfolding front_words
  front_words_done n h =
      let k : ℕ = front_records words n in
      let most : k ≤ records_in words = omega arith in
      let cut : length (take (k * record_width) words) ≡ k * record_width = length_take_front words n k refl in
      let same : records_in (take (k * record_width) words) ≡ k = omega arith in
      let fit : length (transcript (round_by s t)) ≤ k = lines_fit n (round_questions_yes s t n h) in
      let yes : first_no (round_questions s t (records_in (take (k * record_width) words))) ≡ 0 =
      ap (λ (m : ℕ). first_no (round_questions s t m)) same ∙ (round_questions_min s t n (records_in words) long ∙ h) in
      ap (λ (l : List ℕ). l ++ drop (k * record_width) words) (met_words_done s t (take (k * record_width) words) yes)
      ∙ put_at_take (delivery_words (transcript (round_by s t))) words (k * record_width)
      (omega (arith, length_delivery_words (transcript (round_by s t)))) (omega arith)

  met_lent_done_lem : (lent : List Delivery) → first_no (round_questions s t (length lent)) ≡ 0
      → copied (met s t (length lent)).deliveries (front_words s t words (length lent)) lent ≡ met_lent s t lent
  met_lent_done_lem lent h =
      let y : RoundYes s t (length lent) = round_questions_yes s t (length lent) h in
      let ds : List Delivery = transcript (round_by s t) in
      let count : length ds ≡ length (round_by s t).lines = length-map (round_by s t).lines (λ (x : Line). x.delivery) in
      let fit : length ds ≤ front_records words (length lent) = lines_fit (length lent) y in
      let narrow : AllNarrow (round_by s t).lines = round_narrow (keys_of s) (keys_of t) (in_order_rising s y.left) (in_order_rising t y.right) y.fits in
      ap₂ (λ (m : Met) (w : List ℕ). copied m.deliveries w lent) (met_done s t (length lent) h) (front_words_done (length lent) h)
      ∙ (ap (λ (m : ℕ). copied m (put_at words 0 (delivery_words ds)) lent) (sym count)
      ∙ (copied_take words ds lent (λ n b. all_narrow_get_d (round_by s t).lines n no_delivery narrow (omega arith)) (omega arith) (omega arith)
      (length ds) (omega arith)
      ∙ (ap (λ (l : List Delivery). l ++ drop (length ds) lent) (take-length ds) ∙ (sym (put_at_zero lent ds) ∙ sym (met_lent_done s t lent h)))))

  pub met_lent_lem : (lent : List Delivery) → copied (met s t (length lent)).deliveries (front_words s t words (length lent)) lent ≡ met_lent s t lent
  met_lent_lem lent =
      ⊎_elim
      {C = copied (met s t (length lent)).deliveries (front_words s t words (length lent)) lent ≡ met_lent s t lent}
      (λ (h : first_no (round_questions s t (length lent)) ≡ 0). met_lent_done_lem lent h)
      (λ (f : first_no (round_questions s t (length lent)) ≡ 0 → ⊥). rw (met_refused s t (length lent) f, met_lent_refused s t lent f))
      (eq_or_ne (first_no (round_questions s t (length lent))) 0)

  -- what a round on the first words told, and what storing so many of its records does, on a refusal none
  module _ (lent : List Delivery) (r : Met) (told : r ≡ met s t (front_records words (length lent))) where
    pub round_met : r ≡ met s t (length lent)
    round_met = told ∙ met_front (length lent)

    pub round_lent : (after : List ℕ) → after ≡ front_words s t words (length lent) → copied r.deliveries after lent ≡ met_lent s t lent
    round_lent after e = ap₂ (λ (m : Met) (w : List ℕ). copied m.deliveries w lent) round_met e ∙ met_lent_lem lent

-- ---- a round over records of its own, and one of them

-- zeros hold zeros
zeros_at : (n at : ℕ) → get_or (replicate n no_delivery) at no_delivery ≡ no_delivery
zeros_at zero at = refl
zeros_at (suc n) zero = refl
zeros_at (suc n) (suc at) = zeros_at n at

module _ (s t : Store) (at n : ℕ) (full : n ≡ 2 * limit) (r : Met) (r-is : r ≡ met s t (length (replicate n no_delivery))) where
  met_full : r ≡ met s t (2 * limit)
  met_full = r-is ∙ ap (met s t) (length-replicate n no_delivery ∙ full)

  -- where it is refused, the records are zeros still
  refused_full : 0 < r.number → met_lent s t (replicate (2 * limit) no_delivery) ≡ replicate (2 * limit) no_delivery
  refused_full above =
      met_lent_refused s t (replicate (2 * limit) no_delivery)
      (λ (z : first_no (round_questions s t (length (replicate (2 * limit) no_delivery))) ≡ 0).
      let m : ℕ = length (replicate (2 * limit) no_delivery) in
      let same : m ≡ 2 * limit = length-replicate (2 * limit) no_delivery in
      let none : r.number ≡ 0 = ap (λ (x : Met). x.number) (met_full ∙ (ap (met s t) (sym same) ∙ met_done s t m z)) in
      omega arith)

  pub recorded_is : (zs : List Delivery) → zs ≡ met_lent s t (replicate n no_delivery) → (d : Delivery) → d ≡ get_or zs at no_delivery
      → record { met = r; delivery = d } ≡ recorded s t at
  unfolding recorded
  recorded_is zs zs-are d d-is =
      let one : d ≡ get_or (met_lent s t (replicate (2 * limit) no_delivery)) at no_delivery =
      d-is ∙ ap (λ (l : List Delivery). get_or l at no_delivery) (zs-are ∙ ap (λ (m : ℕ). met_lent s t (replicate m no_delivery)) full) in
      λ i. record { met = met_full i; delivery = one i }

  pub recorded_refused : 0 < r.number → record { met = r; delivery = no_delivery } ≡ recorded s t at
  unfolding recorded
  recorded_refused above =
      let one : get_or (met_lent s t (replicate (2 * limit) no_delivery)) at no_delivery ≡ no_delivery =
      ap (λ (l : List Delivery). get_or l at no_delivery) (refused_full above) ∙ zeros_at (2 * limit) at in
      λ i. record { met = met_full i; delivery = (sym one) i }
