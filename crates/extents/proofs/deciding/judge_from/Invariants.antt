use Rattle.error.specs.Answer.{pick}
use Rattle.cursor.specs.Left.{run_at}
use Rattle.cursor.proofs.Through.{rest}
use Rattle.extents.proofs.JudgeTurns.{Going}
use Rattle.extents.proofs.deciding.judge_from.Given as goal

abbrev pub invariant-loop-j : goal.invariant-loop-j
invariant-loop-j l =
    Going l.image l.q l.off l.stop (run_at l.image l.q l.initial.s l.initial.i) l.j (run_at l.image l.q l.s l.i) (run_at l.image l.q (pick l.here l.s l.kept) l.from)

abbrev pub decreases-loop-j : goal.decreases-loop-j
decreases-loop-j l = rest l.image l.q l.s l.i
