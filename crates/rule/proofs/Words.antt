-- Claims and records as words: `claim_words` and `delivery_words` of Call. In order: how many words; joins; parts; records written to
-- the beginning of a lent run; a round's records and its words are one and the same. Assumes nothing.
use Prim.Native.Nat.{ℕ, ◌*◌}
use mathlib.Core.List.{List, [], ◌∷◌, ◌++◌}
use mathlib.Core.Logic.{⊎_elim}
use mathlib.Core.Path.{◌≡◌, refl, sym, ap, ◌∙◌}
use native.Mathlib.Omega.{arith}
use lib.ListN.{length, drop}
use Rattle.keys.specs.declared.store.Store.{Store}
use Rattle.keys.specs.Place.{put_at}
use Rattle.keys.proofs.Tests.{eq_or_ne}
use Rattle.claims.specs.declared.claim.Claim.{Claim}
use Rattle.claims.specs.Question.{first_no}
use Rattle.claims.specs.Words.{claim_width, words_of}
use Rattle.rule.specs.declared.delivery.Delivery.{Delivery}
use Rattle.rule.specs.Round.{transcript}
use Rattle.rule.specs.Call.{claim_words, round_questions, round_by, met_lent, record_width, record_words, delivery_words, records_in, met_words}
use Rattle.rule.proofs.CallLaws.{met_lent_done, met_lent_refused, met_words_done, met_words_refused}

-- ---- how many words

pub length_claim_words : (cs : List Claim) → length (claim_words cs) ≡ claim_width * length cs
length_claim_words [] = refl
length_claim_words (c ∷ cs) = omega (arith, length_claim_words cs)

pub length_delivery_words : (ds : List Delivery) → length (delivery_words ds) ≡ record_width * length ds
length_delivery_words [] = refl
length_delivery_words (d ∷ ds) = omega (arith, length_delivery_words ds)

-- ---- joins

pub claim_words_append : (a b : List Claim) → claim_words (a ++ b) ≡ claim_words a ++ claim_words b
claim_words_append [] b = refl
claim_words_append (c ∷ cs) b = ap (λ (x : List ℕ). words_of c ++ x) (claim_words_append cs b)

pub delivery_words_append : (a b : List Delivery) → delivery_words (a ++ b) ≡ delivery_words a ++ delivery_words b
delivery_words_append [] b = refl
delivery_words_append (d ∷ ds) b = ap (λ (x : List ℕ). record_words d ++ x) (delivery_words_append ds b)

-- ---- parts

-- as many records left out as a list has, and their words
delivery_words_drop : (ds lent : List Delivery) → drop (length (delivery_words ds)) (delivery_words lent) ≡ delivery_words (drop (length ds) lent)
delivery_words_drop [] lent = refl
delivery_words_drop (d ∷ ds) [] = refl
delivery_words_drop (d ∷ ds) (e ∷ lent) = delivery_words_drop ds lent

-- ---- records written to the beginning of a lent run

delivery_words_put_at : (new lent : List Delivery) → delivery_words (put_at lent 0 new) ≡ put_at (delivery_words lent) 0 (delivery_words new)
unfolding put_at
delivery_words_put_at new lent =
    delivery_words_append new (drop (length new) lent) ∙ ap (λ (x : List ℕ). delivery_words new ++ x) (sym (delivery_words_drop new lent))

-- ---- a round, as records and as words

-- lent the words of some records, a round leaves the words of the records that it would leave
pub met_words_records : (s t : Store) (lent : List Delivery) → met_words s t (delivery_words lent) ≡ delivery_words (met_lent s t lent)
met_words_records s t lent =
    ⊎_elim
    {C = met_words s t (delivery_words lent) ≡ delivery_words (met_lent s t lent)}
    (λ (z : first_no (round_questions s t (length lent)) ≡ 0).
    met_words_done s t (delivery_words lent) (ap (λ (n : ℕ). first_no (round_questions s t n)) records ∙ z)
    ∙ sym (ap delivery_words (met_lent_done s t lent z) ∙ delivery_words_put_at (transcript (round_by s t)) lent))
    (λ (f : first_no (round_questions s t (length lent)) ≡ 0 → ⊥).
    met_words_refused s t (delivery_words lent)
    (λ (z : first_no (round_questions s t (records_in (delivery_words lent))) ≡ 0). f (sym (ap (λ (n : ℕ). first_no (round_questions s t n)) records) ∙ z))
    ∙ sym (ap delivery_words (met_lent_refused s t lent f)))
    (eq_or_ne (first_no (round_questions s t (length lent))) 0)
  where
    records : records_in (delivery_words lent) ≡ length lent
    records = omega (arith, length_delivery_words lent)
