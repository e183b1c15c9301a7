use Rattle.std.proofs.Common.{◌-◌, ◌≡◌, ◌≤◌}
use Rattle.lookup.specs.Lookup.{upper_in, upper_of}
use Rattle.lookup.proofs.descent.not_above.Given as goal

abbrev pub invariant-loop-lo : goal.invariant-loop-lo
invariant-loop-lo l = (l.hi ≤ l.node.nkeys) × (upper_in l.b l.node l.info l.target (l.hi - l.lo) l.lo l.hi ≡ upper_of l.b l.node l.info l.target)

abbrev pub decreases-loop-lo : goal.decreases-loop-lo
decreases-loop-lo l = l.hi - l.lo
