-- Lists of events that meet every premise of the statement, so that none of it is empty. That they do is computed in proofs/Examples.
-- Assumes nothing.
use Rattle.std.specs.Prelude.{ℕ, List, [], ◌∷◌, replicate}
use Rattle.claims.specs.Cases.{claim}
use Rattle.rule.specs.declared.delivery.Delivery.{Delivery}
use Rattle.rule.specs.Round.{Pair, pair}
use Rattle.rule.specs.Cases.{stale}
use Rattle.meeting.specs.Event.{Event, To, enters, makes, delivers, beats, meets, joins}
use Rattle.meeting.specs.Statement.{Turn, straight, turned}

-- so many records lent, with something in them
abbrev pub lent_records : ℕ → List Delivery
lent_records n = replicate n stale

-- Three kiosks. The keys 5 and 9 cross by a round; by a beat and a delivery to the table they come to a third kiosk, and 7 between them; the claim of 5, made
-- first of all, arrives late and twice; claims that no store made are refused, one of three that none could make among them, and so is one made of positions
-- that are not there.
abbrev pub crossing : List Event
crossing =
    enters 0 5
    ∷ makes 0 0 0
    ∷ enters 1 9
    ∷ meets 0 1 (lent_records 4)
    ∷ enters 0 7
    ∷ beats 0 (replicate 68 7)
    ∷ delivers 2 To.table (claim 5 9 11 3)
    ∷ makes 2 2 1
    ∷ delivers 2 To.reply (claim 5 5 5 1)
    ∷ delivers 2 To.reply (claim 5 5 5 1)
    ∷ delivers 1 To.reply (claim 9 5 12 2)
    ∷ delivers 1 To.table (claim 5 9 0 3)
    ∷ []

-- Three kiosks, and claims that are passed on. Kiosk 1, empty, hears the claim of kiosk 0 and asks; what it asks goes to kiosk 2, which helps; what helps
-- goes to kiosk 0. Meanwhile a round is refused, which has one record too few, and a beat, which has one word too few.
abbrev pub passed_on : List Event
passed_on =
    enters 0 1
    ∷ enters 0 4
    ∷ enters 0 5
    ∷ enters 0 16
    ∷ makes 0 0 3
    ∷ enters 2 8
    ∷ delivers 1 To.reply (claim 1 16 16 4)
    ∷ meets 2 0 (lent_records 9)
    ∷ delivers 2 To.reply (claim 1 16 17 2)
    ∷ beats 2 (replicate 67 7)
    ∷ delivers 0 To.reply (claim 8 8 8 1)
    ∷ []

-- Three kiosks, of which kiosk 2's branch closes: it holds 3 and 9, and has the claim of both of kiosk 0's keys pending. Its card goes to kiosk 1, which has a
-- claim of kiosk 0 pending too, and is refused once, by one byte too few. Kiosk 2 stays as it is. What kiosk 0 claimed arrives late, and kiosk 1 beats and meets
-- kiosk 0 afterwards.
abbrev pub closing : List Event
closing =
    enters 0 5
    ∷ makes 0 0 0
    ∷ enters 0 7
    ∷ makes 0 0 1
    ∷ enters 1 4
    ∷ delivers 1 To.table (claim 5 5 5 1)
    ∷ enters 2 3
    ∷ enters 2 9
    ∷ delivers 2 To.table (claim 5 7 2 2)
    ∷ joins 1 2 18051
    ∷ joins 1 2 18052
    ∷ []

-- .. and what comes after the card was read
abbrev pub after_closing : List Event
after_closing = delivers 1 To.reply (claim 5 7 2 2) ∷ beats 1 (replicate 68 7) ∷ enters 2 1 ∷ meets 0 1 (lent_records 10) ∷ joins 0 2 20000 ∷ []

-- the stores of document 01's rehearsal, entered key by key, with 0 and 10 brought over by a round
abbrev pub apart_three : List Event
apart_three = enters 0 0 ∷ enters 0 10 ∷ meets 0 1 (lent_records 4) ∷ enters 0 1 ∷ enters 1 5 ∷ enters 1 6 ∷ []

-- three keys are held by just one of the two: three rounds, sides alternating
abbrev pub three_turns : List Turn
three_turns = straight (lent_records 10) ∷ turned (lent_records 10) ∷ straight (lent_records 12) ∷ []

-- five keys whose claim has the sum of its ends alone, since 4 XOR 8 XOR 12 is 0; and those ends
abbrev pub tempting : List ℕ
tempting = 1 ∷ 4 ∷ 8 ∷ 12 ∷ 16 ∷ []

abbrev pub its_ends : List ℕ
its_ends = 1 ∷ 16 ∷ []

-- two stores, in whose round one half takes three deliveries; their union has four keys
abbrev pub four_and_none : Pair
four_and_none = pair (1 ∷ 2 ∷ 3 ∷ 4 ∷ []) []
