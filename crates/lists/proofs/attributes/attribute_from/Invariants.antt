use mathlib.Core.Path.{◌≡◌}
use Rattle.cursor.specs.Left.{run_at}
use Rattle.cursor.proofs.Through.{rest}
use Rattle.records.specs.Attribute.{attribute_at}
use Rattle.lists.specs.Lists.{placed, list_of}
use Rattle.lists.proofs.Reading.{reading}
use Rattle.lists.proofs.Laws.{sought}
use Rattle.lists.proofs.attributes.attribute_from.Given as goal

abbrev pub invariant-loop-e : goal.invariant-loop-e
invariant-loop-e l = reading (attribute_at l.q.keys.reader l.image) (sought l.kept l.left) (run_at l.image l.q l.s l.i) ≡ placed l.place (list_of (attribute_at l.q.keys.reader l.image) (run_at l.image l.q l.fn.start l.fn.start.from))

abbrev pub decreases-loop-e : goal.decreases-loop-e
decreases-loop-e l = rest l.image l.q l.s l.i
