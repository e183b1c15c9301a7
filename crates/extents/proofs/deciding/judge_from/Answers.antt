use Rattle.std.proofs.Common.{◌≡◌}
use Rattle.error.specs.Answer.{pick}
use Rattle.extents.proofs.JudgeTurns.{judge_end, judge_no, judge_passed, judge_near, judge_far, by_start, by_later}
use Rattle.extents.proofs.deciding.judge_from.Goals.{then-here, else-here, in-Over, in-Refused}
use Rattle.extents.proofs.deciding.judge_from.Goals as goal

pub loop-j-preserved-in-Passed : goal.loop-j-preserved-in-Passed
loop-j-preserved-in-Passed c =
    let kept : c.if-here.kept ≡ pick c.loop-j.here c.loop-j.s c.loop-j.kept = elim c.if-here.branch [ then-here w ↦ rw (w.if-here.true, w.kept-is) | else-here w ↦ rw (w.if-here.false, w.kept-is) ] in
    rw kept (judge_passed _ _ _ _ _ _ _ _ _ c.loop-j.invariant _ c.extent_in.ensures c.in-Passed.is _ c.next-s.ensures)

pub loop-j-preserved-then-begins_by : goal.loop-j-preserved-then-begins_by
loop-j-preserved-then-begins_by c =
    judge_near _ _ _ _ _ _ _ _ _ c.loop-j.invariant _ c.extent_in.ensures _ _ c.in-Element.is _ c.one_more-j.ensures (by_start _ _ _ c.begins_by.ensures c.if-begins_by.true)

pub loop-j-preserved : goal.loop-j-preserved
loop-j-preserved c = judge_far _ _ _ _ _ _ _ _ _ c.loop-j.invariant _ c.extent_in.ensures _ _ c.in-Element.is _ c.one_more-j.ensures (by_later _ _ _ c.begins_by.ensures c.if-begins_by.false)

pub returns-then-here-2 : goal.returns-then-here-2
returns-then-here-2 c =
    elim c.match-extent_in.branch [
      | in-Over w ↦ rw w.ruling-is (judge_end _ _ _ _ _ _ _ _ _ c.loop-j.invariant _ c.extent_in.ensures w.in-Over.is _ _ _ (rw c.if-here-2.true) w.closed-ruling.ensures)
      | in-Refused w ↦ rw w.ruling-is (judge_no _ _ _ _ _ _ _ _ _ c.loop-j.invariant _ c.extent_in.ensures _ w.in-Refused.is c.loop-j.s c.loop-j.from)
    ]

pub returns-else-here-2 : goal.returns-else-here-2
returns-else-here-2 c =
    elim c.match-extent_in.branch [
      | in-Over w ↦ rw w.ruling-is (judge_end _ _ _ _ _ _ _ _ _ c.loop-j.invariant _ c.extent_in.ensures w.in-Over.is _ _ _ (rw c.if-here-2.false) w.closed-ruling.ensures)
      | in-Refused w ↦ rw w.ruling-is (judge_no _ _ _ _ _ _ _ _ _ c.loop-j.invariant _ c.extent_in.ensures _ w.in-Refused.is c.loop-j.kept c.loop-j.from)
    ]
