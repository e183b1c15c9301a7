use Rattle.std.proofs.Common.{length}
use Rattle.cursor.specs.Left.{run_at}
use Rattle.cursor.proofs.Through.{rest}
use Rattle.records.specs.Extent.{extent_at}
use Rattle.lists.specs.Inner.{readable}
use Rattle.extents.specs.Extents.{disk_of}
use Rattle.files.specs.Inner.{lay}
use Rattle.files.proofs.CopyTurns.{Filling}
use Rattle.files.proofs.copy.fill.Given as goal

abbrev pub invariant-loop-s : goal.invariant-loop-s
invariant-loop-s l =
    Filling l.image l.q l.off (length l.initial.out) l.s l.i l.out (lay (disk_of l.q.keys.reader l.image) l.off (readable (extent_at l.q.keys.reader l.image) (run_at l.image l.q l.initial.s l.initial.i)) l.initial.out)

abbrev pub decreases-loop-s : goal.decreases-loop-s
decreases-loop-s l = rest l.image l.q l.s l.i
