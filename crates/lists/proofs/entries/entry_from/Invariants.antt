use mathlib.Core.Path.{◌≡◌}
use Rattle.cursor.specs.Left.{run_at}
use Rattle.cursor.proofs.Through.{rest}
use Rattle.records.specs.Directory.{entry_at}
use Rattle.lists.specs.Lists.{placed, list_of}
use Rattle.lists.proofs.Reading.{reading}
use Rattle.lists.proofs.Laws.{sought}
use Rattle.lists.proofs.entries.entry_from.Given as goal

abbrev pub invariant-loop-e : goal.invariant-loop-e
invariant-loop-e l = reading (entry_at l.q.keys.hashed l.q.keys.reader l.image) (sought l.kept l.left) (run_at l.image l.q l.s l.i) ≡ placed l.place (list_of (entry_at l.q.keys.hashed l.q.keys.reader l.image) (run_at l.image l.q l.fn.start l.fn.start.from))

abbrev pub decreases-loop-e : goal.decreases-loop-e
decreases-loop-e l = rest l.image l.q l.s l.i
