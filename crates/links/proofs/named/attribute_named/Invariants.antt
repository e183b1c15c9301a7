use mathlib.Core.Path.{◌≡◌}
use Rattle.error.specs.Answer.{Ok}
use Rattle.lookup.specs.Counted.{after, onto}
use Rattle.btree.specs.Scan.{scan_of}
use Rattle.cursor.specs.Left.{run_at}
use Rattle.cursor.proofs.Through.{rest}
use Rattle.records.specs.Attribute.{attribute_at}
use Rattle.lists.specs.Lists.{list_of}
use Rattle.lists.proofs.Reading.{reading}
use Rattle.links.specs.Named.{named}
use Rattle.links.proofs.Names.{sought_name}
use Rattle.links.proofs.named.attribute_named.Given as goal

abbrev pub invariant-loop-kept : goal.invariant-loop-kept
invariant-loop-kept l =
    reading (attribute_at l.q.keys.reader l.image) (sought_name l.reader l.image l.name l.kept) (run_at l.image l.q l.s l.i)
    ≡ (onto (list_of (attribute_at l.q.keys.reader l.image) (scan_of l.image l.q l.nodes)) λ xs t. after t (Ok (named l.reader l.image l.name xs)))

abbrev pub decreases-loop-kept : goal.decreases-loop-kept
decreases-loop-kept l = rest l.image l.q l.s l.i
