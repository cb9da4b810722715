-- The lists of specs/Examples meet every premise of the statement, and what it says of them is no empty word: computed from the definitions.
-- Assumes nothing.
use Prim.Native.Nat.{ℕ, ◌≤◌}
use mathlib.Core.Bool.{true}
use mathlib.Core.List.Memᴰ
use mathlib.Core.List.{[], ◌∷◌, ◌++◌, map}
use mathlib.Core.Logic.{inl, inr}
use mathlib.Core.Path.{◌≡◌, refl}
use native.Mathlib.Omega.{arith}
use lib.Dec.{lit<, lit≤}
use lib.ListN.{length}
use Rattle.keys.specs.Store.{limit, zeros, store_of, empty_store, in_order, all_zero}
use Rattle.keys.specs.Place.{put_at}
use Rattle.claims.specs.Cases.{claim}
use Rattle.claims.specs.Reply.{third, answer}
use Rattle.claims.specs.Call.{judged, judged_formerly, entered, made, replied}
use Rattle.rule.specs.Node.{blanks, node_of, empty_node, saved_in_order, node_in_order}
use Rattle.rule.specs.Round.{left_end, Entry, run, run_all, half, round_of}
use Rattle.rule.specs.Call.{taken, beaten, beaten_lent, joined, met, met_lent}
use Rattle.rule.specs.Cases.{alike_left, alike_right}
use Rattle.rule.proofs.Half.{opening}
use Rattle.opening.specs.Cost.{opening_cost}
use Rattle.meeting.specs.World.{start, outcome, after_all, numbers}
use Rattle.meeting.specs.Premise.{AllMeant}
use Rattle.meeting.specs.Statement.{end, keys_in, entered_in, different, apart, rounds, none_false, Demand3}
use Rattle.meeting.specs.Opening.{after_opening, BothHold}
use Rattle.meeting.specs.Examples.{crossing, passed_on, closing, after_closing, apart_three, three_turns, tempting, its_ends, four_and_none}
use Rattle.meeting.proofs.Theorem.{every_list_meets}
use Rattle.meeting.proofs.Meeting.{BothEnd}

-- all that has to be opened to compute with the calls
opened : Unit {0}
unfolding zeros store_of empty_store in_order put_at third answer judged judged_formerly entered made replied blanks node_of empty_node saved_in_order
    node_in_order run run_all half round_of taken beaten beaten_lent joined met met_lent outcome
opened = tt

zero_one : ◌≡◌ {A = ℕ} 0 1 → ⊥
zero_one e = omega arith

two_zero : ◌≡◌ {A = ℕ} 2 0 → ⊥
two_zero e = omega arith

no_16 : ◌≡◌ {A = ℕ} 16 0 → ⊥
no_16 e = omega arith

-- ---- a list in which keys cross in every way

-- it is meant: each delivered claim was made before, or is refused
pub crossing_meant : AllMeant 3 crossing start
unfolding opened
crossing_meant =
    let late = Memᴰ.head refl in
    let sent = Memᴰ.tail (Memᴰ.tail (Memᴰ.tail (Memᴰ.head refl))) in
    let k0 = lit< tt in
    let k1 = lit< tt in
    let k2 = lit< tt in
    (k0, (k0, (k1, ((k0, k1, zero_one), (k0, (k0, ((k2, inl sent), (k2, ((k2, inl late), ((k2, inl late), ((k1, inr two_zero), ((k1, inr no_16), tt))))))))))))

pub crossing_few : different (entered_in crossing) ≤ limit
unfolding opened
crossing_few = lit≤ tt

-- the claims made, in turn: by making; by the round, two; by the beat. Those delivered matched, or went to the table, and made no other.
pub crossing_made : (end crossing).made ≡ claim 5 5 5 1 ∷ claim 5 5 5 1 ∷ claim 5 9 12 2 ∷ claim 5 9 11 3 ∷ []
unfolding opened
crossing_made = refl

-- three calls are refused, the others are carried out
pub crossing_numbers : numbers crossing start ≡ 0 ∷ 0 ∷ 0 ∷ 0 ∷ 0 ∷ 0 ∷ 0 ∷ 7 ∷ 0 ∷ 0 ∷ 2 ∷ 16 ∷ []
unfolding opened
crossing_numbers = refl

-- 9 came to kiosk 0 and 5 to kiosk 1 by the round, both to kiosk 2 by the beat and a delivery, and with them 7, the middle key of three
pub crossing_keys : map (keys_in (end crossing)) (0 ∷ 1 ∷ 2 ∷ []) ≡ (5 ∷ 7 ∷ 9 ∷ []) ∷ (5 ∷ 9 ∷ []) ∷ (5 ∷ 7 ∷ 9 ∷ []) ∷ []
unfolding opened
crossing_keys = refl

pub crossing_demand3 : Demand3 3 crossing
crossing_demand3 = every_list_meets 3 crossing crossing_meant crossing_few

-- ---- a list in which what a reply asks or helps with goes on to a third kiosk

pub passed_on_meant : AllMeant 3 passed_on start
unfolding opened
passed_on_meant =
    let k0 = lit< tt in
    let k1 = lit< tt in
    let k2 = lit< tt in
    let made = inl (Memᴰ.head refl) in
    let asked = inl (Memᴰ.tail (Memᴰ.head refl)) in
    let helped = inl (Memᴰ.tail (Memᴰ.tail (Memᴰ.head refl))) in
    (k0, (k0, (k0, (k0, (k0, (k2, ((k1, made), ((k2, k0, two_zero), ((k2, asked), (k2, ((k0, helped), tt)))))))))))

pub passed_on_few : different (entered_in passed_on) ≤ limit
unfolding opened
passed_on_few = lit≤ tt

-- the round gets 9 and the beat 15
pub passed_on_numbers : numbers passed_on start ≡ 0 ∷ 0 ∷ 0 ∷ 0 ∷ 0 ∷ 0 ∷ 0 ∷ 9 ∷ 0 ∷ 15 ∷ 0 ∷ []
unfolding opened
passed_on_numbers = refl

-- the claims made: by making, by asking, by helping, and none by what was refused
pub passed_on_made : (end passed_on).made ≡ claim 1 16 16 4 ∷ claim 1 16 17 2 ∷ claim 8 8 8 1 ∷ []
unfolding opened
passed_on_made = refl

-- 1 and 16 came to kiosk 2 from kiosk 0 by way of kiosk 1, and 8 back to kiosk 0
pub passed_on_keys : map (keys_in (end passed_on)) (0 ∷ 1 ∷ 2 ∷ []) ≡ (1 ∷ 4 ∷ 5 ∷ 8 ∷ 16 ∷ []) ∷ (1 ∷ 16 ∷ []) ∷ (1 ∷ 8 ∷ 16 ∷ []) ∷ []
unfolding opened
passed_on_keys = refl

pub passed_on_demand3 : Demand3 3 passed_on
passed_on_demand3 = every_list_meets 3 passed_on passed_on_meant passed_on_few

-- ---- a list in which a branch closes, and its card is joined into another kiosk's

pub closing_meant : AllMeant 3 (closing ++ after_closing) start
unfolding opened
closing_meant =
    let k0 = lit< tt in
    let k1 = lit< tt in
    let k2 = lit< tt in
    let one = inl (Memᴰ.head refl) in
    let both = inl (Memᴰ.tail (Memᴰ.head refl)) in (
      k0,
      (
        k0,
        (
          k0,
          (
            k0,
            (
              k1,
              (
                (k1, one),
                (
                  k2,
                  (
                    k2,
                    (
                      (k2, both),
                      (
                        (k1, k2),
                        (
                          (k1, k2),
                          ((k1, both), (k1, (k2, ((k0, k1, zero_one), ((k0, k2), tt))))),
                        ),
                      ),
                    ),
                  ),
                ),
              ),
            ),
          ),
        ),
      ),
    )

pub closing_few : different (entered_in (closing ++ after_closing)) ≤ limit
unfolding opened
closing_few = lit≤ tt

-- one byte too few is 15; all others are carried out
pub closing_numbers : numbers closing start ≡ 0 ∷ 0 ∷ 0 ∷ 0 ∷ 0 ∷ 0 ∷ 0 ∷ 0 ∷ 0 ∷ 15 ∷ 0 ∷ []
unfolding opened
closing_numbers = refl

-- kiosk 1 has the keys of both and the claims of both
pub closing_joined : (end closing).kiosks 1 ≡ node_of (3 ∷ 4 ∷ 5 ∷ 7 ∷ 9 ∷ []) (claim 5 5 5 1 ∷ claim 5 7 2 2 ∷ [])
unfolding opened
closing_joined = refl

-- the other stays as it is: kiosk 2 still has its keys and its table
pub closing_other : (end closing).kiosks 2 ≡ node_of (3 ∷ 5 ∷ 7 ∷ 9 ∷ []) (claim 5 7 2 2 ∷ [])
unfolding opened
closing_other = refl

-- afterwards a late claim, a beat and a round bring all to kiosk 0 that kiosk 1 has, and a second joining what came to kiosk 2 since
pub closing_numbers_after : numbers after_closing (end closing) ≡ 0 ∷ 0 ∷ 0 ∷ 0 ∷ 0 ∷ []
unfolding opened
closing_numbers_after = refl

pub closing_keys : map (keys_in (end (closing ++ after_closing))) (0 ∷ 1 ∷ 2 ∷ []) ≡ (1 ∷ 3 ∷ 4 ∷ 5 ∷ 7 ∷ 9 ∷ []) ∷ (3 ∷ 4 ∷ 5 ∷ 7 ∷ 9 ∷ []) ∷ (1 ∷ 3 ∷ 5 ∷ 7 ∷ 9 ∷ []) ∷ []
unfolding opened
closing_keys = refl

pub closing_demand3 : Demand3 3 (closing ++ after_closing)
closing_demand3 = every_list_meets 3 (closing ++ after_closing) closing_meant closing_few

-- ---- two kiosks that differ in three keys, and three rounds of them

pub apart_three_meant : AllMeant 2 apart_three start
unfolding opened
apart_three_meant = (lit< tt, (lit< tt, ((lit< tt, lit< tt, zero_one), (lit< tt, (lit< tt, (lit< tt, tt))))))

pub apart_three_few : different (entered_in apart_three) ≤ limit
unfolding opened
apart_three_few = lit≤ tt

pub apart_three_keys : map (keys_in (end apart_three)) (0 ∷ 1 ∷ []) ≡ (0 ∷ 1 ∷ 10 ∷ []) ∷ (0 ∷ 5 ∷ 6 ∷ 10 ∷ []) ∷ []
unfolding opened
apart_three_keys = refl

pub apart_three_apart : apart (keys_in (end apart_three) 0) (keys_in (end apart_three) 1) ≡ length three_turns
unfolding opened
apart_three_apart = refl

pub apart_three_carried : all_zero (numbers (rounds 0 1 three_turns) (end apart_three)) ≡ true
unfolding opened
apart_three_carried = refl

pub apart_three_honest : none_false (rounds 0 1 three_turns) (end apart_three) ≡ true
unfolding opened
apart_three_honest = refl

-- so the statement's last clause applies: both end with the union, in every place
pub apart_three_together : BothEnd (after_all (rounds 0 1 three_turns) (end apart_three)) 0 1 (0 ∷ 1 ∷ 5 ∷ 6 ∷ 10 ∷ [])
unfolding opened
apart_three_together =
    (every_list_meets 2 apart_three apart_three_meant apart_three_few).together 0 1 (lit< tt) (lit< tt) zero_one three_turns
    (lit≤ tt) apart_three_carried apart_three_honest

-- ---- deliveries until none waits

-- the left one's whole claim is asked about, helped with and matched: after three deliveries none waits ..
pub three_leave_none : (half left_end four_and_none).waiting ≡ []
unfolding opened
three_leave_none = refl

-- .. and after two the last of them does
pub two_leave_one : map (λ (e : Entry). e.claim) (run 2 four_and_none (opening left_end four_and_none)).waiting ≡ claim 2 3 1 2 ∷ []
unfolding opened
two_leave_one = refl

-- ---- one store has all keys of the other

-- an empty one is filled, and told what it costs
pub tempting_opened : met empty_store (store_of tempting) 10 ≡ after_opening (store_of tempting)
unfolding opened opening_cost
tempting_opened = refl

-- either store may be the fuller one ..
pub ends_filled : BothHold tempting (met (store_of its_ends) (store_of tempting) 10)
unfolding opened
ends_filled = record { left = refl; right = refl }

pub ends_fill : BothHold tempting (met (store_of tempting) (store_of its_ends) 10)
unfolding opened
ends_fill = record { left = refl; right = refl }

-- .. and one of them must be: these two match falsely, and each stays as it was
pub alike_stay : ((met alike_left alike_right 12).left ≡ alike_left) × ((met alike_left alike_right 12).right ≡ alike_right)
unfolding opened
alike_stay = (refl, refl)
