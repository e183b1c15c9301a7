-- A child goes one level down, a node within its level. The loop's invariant: what is left of the node gives the record that is left to find.
use Rattle.std.proofs.Common.{◌≡◌, ◌-◌, ◌+◌, ◌*◌}
use Rattle.btree.specs.Scan.{Tail, nth}
use Rattle.btree.specs.Inner.{each, walk, child}
use Rattle.btree.proofs.skip.+pass_child_pass_node.Given as goal

abbrev pub decreases-pass_child : goal.decreases-pass_child
decreases-pass_child l = 2 * l.level

abbrev pub decreases-pass_node : goal.decreases-pass_node
decreases-pass_node l = 2 * l.level + 1

abbrev pub invariant-pass_node-loop-m : goal.invariant-pass_node-loop-m
invariant-pass_node-loop-m l =
    (k : Tail) → nth l.left (each (child l.image l.q l.level) l.image l.q l.node (l.node.nkeys - l.i) l.i k l.n) ≡ nth l.skip (walk l.image l.q l.level l.node 0 k l.nodes)

abbrev pub decreases-pass_node-loop-m : goal.decreases-pass_node-loop-m
decreases-pass_node-loop-m l = l.node.nkeys - l.i
