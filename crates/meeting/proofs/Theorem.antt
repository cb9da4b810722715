-- Demand 3, for every number of kiosks and every list of events that is meant. The statement is `Demand3` of specs/Statement, the premise `AllMeant` of
-- specs/Premise. `every_list_meets` is the statement that is asked for, with no more different keys entered in all than the limit; that premise turned out
-- not to be needed for it, so it is derived from the stronger `every_list`. What needs it is in Beyond. Assumes nothing.
use Prim.Native.Nat.{ℕ, ◌≤◌}
use mathlib.Core.List.{List, []}
use Rattle.keys.specs.Store.{limit}
use Rattle.keys.proofs.Rising.{true_rising}
use Rattle.keys.proofs.StoreLaws.{in_order_rising}
use Rattle.rule.proofs.NodeLaws.{ordered_node_in_order}
use Rattle.rule.proofs.CallLaws.{met_bounded, met_waiting}
use Rattle.meeting.specs.Event.{Event}
use Rattle.meeting.specs.World.{World, start}
use Rattle.meeting.specs.Premise.{AllMeant}
use Rattle.meeting.specs.Statement.{end, keys_in, entered_in, different, Demand3}
use Rattle.meeting.proofs.Invariant.{Good, good_start, good_all}
use Rattle.meeting.proofs.Meeting.{Ready, meeting}

-- the invariant at the end of a list that is meant
pub good_end : (n : ℕ) (es : List Event) → AllMeant n es start → Good n (end es) (entered_in es)
good_end n es m = good_all n start [] es (good_start n) m

pub good_ready : (n : ℕ) (w : World) (ks : List ℕ) → Good n w ks → (k : ℕ) → Ready (w.kiosks k).store
good_ready n w ks g k = record { order = (g.ordered k).store; laid = g.laid k }

pub every_list : (n : ℕ) (es : List Event) → AllMeant n es start → Demand3 n es
every_list n es m =
    let g : Good n (end es) (entered_in es) = good_end n es m in
    let ready : (k : ℕ) → Ready ((end es).kiosks k).store = good_ready n (end es) (entered_in es) g in
    record {
      rises = λ k h. true_rising (keys_in (end es) k) (in_order_rising ((end es).kiosks k).store (g.ordered k).store);
      ordered = λ k h. ordered_node_in_order ((end es).kiosks k) (g.ordered k);
      exact = λ x. (λ t. g.within t.0 x t.2, g.found x);
      bounded = λ before others e k j records. met_bounded ((end before).kiosks k).store ((end before).kiosks j).store records;
      none_waits = λ before others e k j records. met_waiting ((end before).kiosks k).store ((end before).kiosks j).store records;
      together = λ k j hk hj different ts. meeting (end es) k j different ts (ready k) (ready j);
    }

pub every_list_meets : (n : ℕ) (es : List Event) → AllMeant n es start → different (entered_in es) ≤ limit → Demand3 n es
every_list_meets n es m h = every_list n es m
