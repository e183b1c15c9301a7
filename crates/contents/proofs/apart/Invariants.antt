use mathlib.Core.Path.{◌≡◌}
use Rattle.lookup.specs.Counted.{after, onto}
use Rattle.cursor.specs.Left.{run_at}
use Rattle.cursor.proofs.Through.{rest}
use Rattle.records.specs.Extent.{extent_at}
use Rattle.lists.specs.Lists.{list_of}
use Rattle.lists.proofs.Reading.{reading}
use Rattle.extents.specs.Extents.{apart}
use Rattle.contents.proofs.Laws.{ordering}
use Rattle.contents.proofs.apart.Given as goal

abbrev pub invariant-loop-w : goal.invariant-loop-w
invariant-loop-w l =
    reading (extent_at l.q.keys.reader l.image) (ordering l.ruling l.last) (run_at l.image l.q l.s l.i)
    ≡ (onto (list_of (extent_at l.q.keys.reader l.image) (run_at l.image l.q l.initial.s l.initial.i)) λ es t. after t (apart es))

abbrev pub decreases-loop-w : goal.decreases-loop-w
decreases-loop-w l = rest l.image l.q l.s l.i
