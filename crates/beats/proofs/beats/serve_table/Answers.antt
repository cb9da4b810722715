use Rattle.rule.specs.Node.{blanks}
use Rattle.beats.proofs.BeatsPaths.{left_all, left_stays, left_leaves, left_none}
use Rattle.beats.proofs.beats.serve_table.Goals as goal
use Rattle.beats.proofs.beats.serve_table.Goals.{then-turn, else-turn}

pub loop-claim-init : goal.loop-claim-init
unfolding blanks
loop-claim-init c = search left_all

pub loop-claim-preserved : goal.loop-claim-preserved
loop-claim-preserved c =
    let before = c.loop-claim.invariant in
    let inside = c.loop-claim-test.true in
    let answered = c.answer_in-answer.ensures in
    let turned = c.serve_claim-turn.ensures in
    elim c.if-turn.branch [
      | then-turn w ↦ rw w.kept-is (left_stays _ _ _ _ _ before inside answered turned w.if-turn.true)
      | else-turn w ↦ rw w.kept-is (left_leaves _ _ _ _ _ before inside answered turned w.if-turn.false)
    ]

pub returns : goal.returns
returns c = left_none _ _ _ _ _ c.loop-claim.invariant c.requires.0 c.loop-claim-test.false
