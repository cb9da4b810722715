-- Events (document 01, "Lists of events"): "An event is one call, carried out or refused", here with all that the call is given beside the kiosks.
-- Kiosks are named by numbers. Assumes nothing.
use Rattle.std.specs.Prelude.{ℕ, List}
use Rattle.claims.specs.declared.claim.Claim.{Claim}
use Rattle.rule.specs.declared.delivery.Delivery.{Delivery}

-- "either to the reply, which changes its store, or to the table"
pub data To : Type 0 where
  reply table : To

pub data Event : Type 0 where
  -- "a key entered into one kiosk's store"
  enters : (kiosk key : ℕ) → Event
  -- "a claim made of positions i to j of one kiosk's store"
  makes : (kiosk i j : ℕ) → Event
  -- "a claim delivered to one kiosk"
  delivers : (kiosk : ℕ) → To → Claim → Event
  -- "a beat of one kiosk", with the words lent to it
  beats : (kiosk : ℕ) → List ℕ → Event
  -- "a round of two different kiosks", the left one first, with the records lent to it
  meets : (left right : ℕ) → List Delivery → Event
  -- "such a joining of two of its kiosks, as they then stand, into one of them" (document 02, slip 9), with so many bytes lent to it for the image
  joins : (into from room : ℕ) → Event
