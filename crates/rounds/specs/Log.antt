-- The lent run of transcript records (document 01, "A round"): the record that stands where there is none; then what our own functions between the words
-- of a round's core and the records do, for any content. These are no rule of document 01: that together they are the round of Call is a law
-- (`met_front` and `met_lent_lem` of proofs/LogLaws). Last, a round over records of its own. Assumes nothing.
use Rattle.std.specs.Prelude.{ℕ, zero, suc, ◌*◌, ◌%◌, min, cond, List, ◌++◌, ltb, take, drop, get_or, set, replicate, Result, Ok, Err}
use Rattle.keys.specs.declared.store.Store.{Store}
use Rattle.keys.specs.Store.{limit}
use Rattle.claims.specs.declared.refusal.Refusal.{Refusal}
use Rattle.claims.specs.Claim.{no_claim}
use Rattle.rule.specs.declared.delivery.Delivery.{Delivery}
use Rattle.rule.specs.Answer.{Met, met_by}
use Rattle.rule.specs.Call.{record_width, records_in, met, met_lent, met_words}
use Rattle.transcript.specs.Core.{claim_in}
use Rattle.rounds.specs.declared.log.Recorded.{Recorded as Told}

-- the record of zeros, which stands where there is none
abbrev pub no_delivery : Delivery
no_delivery = record { sender = 0; claim = no_claim }

-- ---- between words and records

-- the record that lies in words, and the record of zeros past the last one
unfoldable pub delivery_in : List ℕ → ℕ → Delivery
delivery_in words at = cond (ltb at (records_in words)) (record { sender = get_or words (at * record_width) 0 % 256; claim = claim_in words at }) no_delivery

-- the first n records that lie in words, stored one after the other
abbrev pub copied : ℕ → List ℕ → List Delivery → List Delivery
copied zero words lent = lent
copied (suc n) words lent = set (copied n words lent) n (delivery_in words n)

-- so many records, or all that there are words for
abbrev pub front_records : List ℕ → ℕ → ℕ
front_records words records = min records (records_in words)

-- the words after a round on the first of them
unfoldable pub front_words : Store → Store → List ℕ → ℕ → List ℕ
front_words s t words records =
    met_words s t (take (front_records words records * record_width) words) ++ drop (front_records words records * record_width) words

-- ---- a round over records of its own

-- what a round returned, and one record of its transcript
pub record Recorded : Type 0 where
  pub met : Met
  pub delivery : Delivery

-- by both stores as they are then and what the call returns; where it refuses there is no record
abbrev pub recorded_by : Store → Store → Result Told Refusal → Recorded
recorded_by left right (Ok t) = record { met = met_by left right (Ok t.deliveries); delivery = t.delivery }
recorded_by left right (Err e) = record { met = met_by left right (Err e); delivery = no_delivery }

-- what a round over as many records of zeros as a round can fill returns, and what they then hold at a place
unfoldable pub recorded : Store → Store → ℕ → Recorded
recorded s t at = record { met = met s t (2 * limit); delivery = get_or (met_lent s t (replicate (2 * limit) no_delivery)) at no_delivery }
