use mathlib.Core.Path.{◌≡◌}
use lib.ListN.{length}
use Rattle.btree.specs.Scan.{scan_of}
use Rattle.cursor.specs.Left.{run_at}
use Rattle.cursor.proofs.Through.{rest}
use Rattle.records.specs.Extent.{extent_at}
use Rattle.extents.specs.Extents.{disk_of}
use Rattle.streams.specs.Inner.{run_bytes}
use Rattle.links.proofs.Pouring.{Feeds}
use Rattle.links.proofs.pour.push_stream.Given as goal

abbrev pub invariant-loop-out : goal.invariant-loop-out
invariant-loop-out l =
    Feeds l.raw l.room l.g l.out (run_bytes (extent_at l.q.keys.reader l.image) (disk_of l.reader l.image) l.size l.pos (run_at l.image l.q l.s l.i)) l.fn.f l.fn.out (run_bytes (extent_at l.q.keys.reader l.image) (disk_of l.reader l.image) l.size 0 (scan_of l.image l.q l.nodes))
    × (length l.out ≡ length l.fn.out)

abbrev pub decreases-loop-out : goal.decreases-loop-out
decreases-loop-out l = rest l.image l.q l.s l.i
