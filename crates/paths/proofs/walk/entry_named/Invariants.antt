-- What was chosen, and what is left, give what is found in the whole list.
use Rattle.std.proofs.Common.{◌≡◌}
use Rattle.btree.specs.Scan.{scan_of}
use Rattle.cursor.specs.Left.{run_at}
use Rattle.cursor.proofs.Through.{rest}
use Rattle.records.specs.Directory.{entry_at}
use Rattle.lists.proofs.Reading.{reading}
use Rattle.paths.proofs.Directory.{choosing, found_in}
use Rattle.paths.proofs.walk.entry_named.Given as goal

abbrev pub invariant-loop-e : goal.invariant-loop-e
invariant-loop-e l =
    reading (entry_at l.q.keys.hashed l.q.keys.reader l.image) (choosing l.rule l.reader l.image l.part l.choice) (run_at l.image l.q l.s l.i)
    ≡ found_in l.rule l.reader l.image l.part (entry_at l.q.keys.hashed l.q.keys.reader l.image) (scan_of l.image l.q l.fn.nodes)

abbrev pub decreases-loop-e : goal.decreases-loop-e
decreases-loop-e l = rest l.image l.q l.s l.i
