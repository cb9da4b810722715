-- Records laid out as words (specs/Core, `put_record`, `claim_in`, against `delivery_words` of `rule`, specs/Call): how long they are, what
-- is read at a record, and that a record put after those that are written is one record more. Assumes nothing.
use Prim.Native.Nat.{ℕ, ◌+◌, ◌*◌, ◌≤◌, ◌<◌}
use mathlib.Core.List.{List, [], ◌∷◌, ◌++◌, map, append_assoc, append-nil}
use mathlib.Core.Path.{◌≡◌, refl, sym, ap, ap₂, ◌∙◌}
use native.Mathlib.Omega.{arith}
use borrow.Author.Tests.{lt-ltb}
use lib.ListN.{length, drop, get_or, length-append}
use lib.Seq.{get_or-drop, drop-append-add}
use Rattle.keys.specs.Store.{limit}
use Rattle.keys.specs.Place.{put_at}
use Rattle.keys.proofs.PlaceLaws.{length_put_at, put_at_then}
use Rattle.claims.specs.declared.claim.Claim.{Claim}
use Rattle.claims.specs.Words.{from_words}
use Rattle.claims.proofs.WordsLaws.{claim_at_small}
use Rattle.rule.specs.declared.delivery.Delivery.{Delivery}
use Rattle.rule.specs.Call.{record_width, record_words, records_in, delivery_words}
use Rattle.rule.proofs.Words.{length_delivery_words, delivery_words_append}
use Rattle.transcript.specs.Core.{sender_in, claim_in, Log, log_with, delivery, put_record, put_records}

-- so many words to a record
words_of : (ds : List Delivery) → length (delivery_words ds) ≡ length ds * record_width
words_of ds = omega (arith, length_delivery_words ds)

-- the words keep their number
pub length_over : (ds : List Delivery) (lent : List ℕ) → length ds ≤ records_in lent → length (put_at lent 0 (delivery_words ds)) ≡ length lent
length_over ds lent h = length_put_at lent 0 (delivery_words ds) (omega (arith, length_delivery_words ds))

-- ---- reading the record after those in front

module _ (done : List Delivery) (d : Delivery) (rest : List Delivery) (lent : List ℕ) where
  -- the words from that record on
  from : List ℕ
  from = delivery_words (d ∷ rest) ++ drop (length (delivery_words (done ++ (d ∷ rest)))) lent

  in_front : put_at lent 0 (delivery_words (done ++ (d ∷ rest))) ≡ delivery_words done ++ from
  unfolding from put_at
  in_front =
      ap (λ (l : List ℕ). l ++ drop (length (delivery_words (done ++ (d ∷ rest)))) lent) (delivery_words_append done (d ∷ rest))
      ∙ append_assoc (delivery_words done) (delivery_words (d ∷ rest)) (drop (length (delivery_words (done ++ (d ∷ rest)))) lent)

  words_at : (n : ℕ) → drop (length done * record_width + n) (put_at lent 0 (delivery_words (done ++ (d ∷ rest)))) ≡ drop n from
  words_at n =
      ap (drop (length done * record_width + n)) in_front
      ∙ (ap (λ (k : ℕ). drop (k + n) (delivery_words done ++ from)) (sym (words_of done)) ∙ drop-append-add (delivery_words done) from n)

  pub sender_at : sender_in (put_at lent 0 (delivery_words (done ++ (d ∷ rest)))) (length done) ≡ d.sender
  unfolding from
  sender_at =
      let w : List ℕ = put_at lent 0 (delivery_words (done ++ (d ∷ rest))) in
      let e : length done * record_width ≡ length done * record_width + 0 = omega arith in
      ap (λ (k : ℕ). get_or w k 0) e
      ∙ (sym (get_or-drop (length done * record_width) w 0 0)
      ∙ (ap (λ (k : ℕ). get_or (drop k w) 0 0) e ∙ ap (λ (l : List ℕ). get_or l 0 0) (words_at 0)))

  pub claim_at : length (done ++ (d ∷ rest)) ≤ records_in lent → d.claim.cnt ≤ limit
      → claim_in (put_at lent 0 (delivery_words (done ++ (d ∷ rest)))) (length done) ≡ d.claim
  unfolding from
  claim_at h g =
      let w : List ℕ = put_at lent 0 (delivery_words (done ++ (d ∷ rest))) in
      let same : length w ≡ length lent = length_over (done ++ (d ∷ rest)) lent h in
      let e : from_words (drop (length done * record_width + 1) w) ≡ d.claim = ap from_words (words_at 1) in
      let small : (from_words (drop (length done * record_width + 1) w)).cnt < 65536 = omega (arith, ap (λ (c : Claim). c.cnt) e) in
      claim_at_small w (length done * record_width + 1) (omega (arith, length-append done (d ∷ rest))) small ∙ e

-- ---- writing the record after those that are written

-- the records ds, over the words `lent`
abbrev pub log_of : List Delivery → List ℕ → Log
log_of ds lent = log_with (put_at lent 0 (delivery_words ds)) (length ds)

put_record_append : (ds : List Delivery) (lent : List ℕ) (sender : ℕ) (c : Claim) → length ds < records_in lent
    → put_record (log_of ds lent) sender c ≡ log_of (ds ++ (delivery sender c ∷ [])) lent
unfolding put_record
put_record_append ds lent sender c h =
    let x : List ℕ = delivery_words ds in
    let w : List ℕ = put_at lent 0 x in
    let v : List ℕ = record_words (delivery sender c) in
    let len : length x ≡ length ds * record_width = words_of ds in
    let same : length w ≡ length lent = length_over ds lent (omega arith) in
    let some : length ds < records_in w = omega arith in
    let all : delivery_words (ds ++ (delivery sender c ∷ [])) ≡ x ++ v = delivery_words_append ds (delivery sender c ∷ []) in
    let put : put_at w (length ds * record_width) v ≡ put_at lent 0 (delivery_words (ds ++ (delivery sender c ∷ []))) =
    rw all (put_at_then lent 0 (length ds * record_width) x v (omega arith) (omega arith) refl refl) in
    rw (lt-ltb (length ds) (records_in w) some) (ap₂ log_with put (sym (length-append ds (delivery sender c ∷ []))))

pub put_records_append : (ds : List Delivery) (lent : List ℕ) (sender : ℕ) (cs : List Claim) → length ds + length cs ≤ records_in lent
    → put_records (log_of ds lent) sender cs ≡ log_of (ds ++ map (delivery sender) cs) lent
put_records_append ds lent sender [] h = ap (λ (l : List Delivery). log_of l lent) (sym (append-nil ds))
put_records_append ds lent sender (c ∷ cs) h =
    let d : Delivery = delivery sender c in
    let more : length (ds ++ (d ∷ [])) ≡ length ds + 1 = length-append ds (d ∷ []) in
    ap (λ (l : Log). put_records l sender cs) (put_record_append ds lent sender c (omega arith))
    ∙ (put_records_append (ds ++ (d ∷ [])) lent sender cs (omega arith)
    ∙ ap (λ (l : List Delivery). log_of l lent) (append_assoc ds (d ∷ []) (map (delivery sender) cs)))
