-- A child goes one level down, a node within its level. The loop's invariant: what is left of the node, at the entry that comes next, is the whole walk.
use Rattle.std.proofs.Common.{◌≡◌, ◌-◌, ◌+◌, ◌*◌}
use Rattle.btree.specs.Inner.{walk}
use Rattle.cursor.specs.Left.{left}
use Rattle.cursor.specs.Inner.{onward}
use Rattle.cursor.proofs.walk.+descend_walk_from.Given as goal

abbrev pub decreases-descend : goal.decreases-descend
decreases-descend l = 2 * l.level

abbrev pub decreases-walk_from : goal.decreases-walk_from
decreases-walk_from l = 2 * l.level + 1

abbrev pub invariant-walk_from-loop-e : goal.invariant-walk_from-loop-e
invariant-walk_from-loop-e l =
    onward l.image l.q l.level l.node l.i l.c l.n ≡ walk l.image l.q l.level l.node l.from (left l.image l.q l.c l.level) l.nodes

abbrev pub decreases-walk_from-loop-e : goal.decreases-walk_from-loop-e
decreases-walk_from-loop-e l = l.node.nkeys - l.i
