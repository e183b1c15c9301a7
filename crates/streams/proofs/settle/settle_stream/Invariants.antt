use mathlib.Core.Path.{◌≡◌}
use Rattle.lookup.specs.Counted.{after, onto}
use Rattle.btree.specs.Scan.{scan_of}
use Rattle.cursor.specs.Left.{run_at}
use Rattle.cursor.proofs.Through.{rest}
use Rattle.records.specs.Extent.{extent_at}
use Rattle.lists.specs.Lists.{list_of}
use Rattle.lists.proofs.Reading.{reading}
use Rattle.extents.specs.Extents.{disk_of}
use Rattle.streams.specs.Inner.{settle}
use Rattle.streams.proofs.Laws.{settling}
use Rattle.streams.proofs.settle.settle_stream.Given as goal

abbrev pub invariant-loop-ruling : goal.invariant-loop-ruling
invariant-loop-ruling l =
    reading (extent_at l.q.keys.reader l.image) (settling (disk_of l.reader l.image) l.size l.ruling l.pos) (run_at l.image l.q l.s l.i)
    ≡ (onto (list_of (extent_at l.q.keys.reader l.image) (scan_of l.image l.q l.nodes)) λ es t. after t (settle (disk_of l.reader l.image) l.size 0 es))

abbrev pub decreases-loop-ruling : goal.decreases-loop-ruling
decreases-loop-ruling l = rest l.image l.q l.s l.i
