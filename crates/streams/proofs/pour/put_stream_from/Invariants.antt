use mathlib.Core.Path.{◌≡◌}
use mathlib.Core.List.{[]}
use lib.ListN.{length}
use Rattle.text.specs.Output.{at, output_of, puts}
use Rattle.text.specs.Words.{pairs}
use Rattle.cursor.specs.Left.{run_at}
use Rattle.cursor.proofs.Through.{rest}
use Rattle.records.specs.Extent.{extent_at}
use Rattle.extents.specs.Extents.{disk_of}
use Rattle.streams.specs.Inner.{run_bytes}
use Rattle.streams.proofs.pour.put_stream_from.Given as goal

abbrev pub invariant-loop-out : goal.invariant-loop-out
invariant-loop-out l =
    (puts l.room (pairs (run_bytes (extent_at l.q.keys.reader l.image) (disk_of l.reader l.image) l.size l.pos (run_at l.image l.q l.s l.i)) []) (at l.out l.at)
    ≡ puts l.room (pairs (run_bytes (extent_at l.q.keys.reader l.image) (disk_of l.reader l.image) l.size 0 (run_at l.image l.q l.fn.start l.fn.start.from)) []) (output_of l.fn.p l.fn.out)) × (length l.out ≡ length l.fn.out)

abbrev pub decreases-loop-out : goal.decreases-loop-out
decreases-loop-out l = rest l.image l.q l.s l.i
