-- An entry's node is as many levels above the last as the entry has left, a node's entries one fewer. The loop's invariant: what is left of the entries
-- brings the buffer to where all of them would.
use Rattle.std.proofs.Common.{◌≡◌, ◌+◌, ◌-◌, length}
use Rattle.cursor.specs.Left.{run_at}
use Rattle.cursor.proofs.Through.{rest}
use Rattle.records.specs.Directory.{entry_at}
use Rattle.lists.specs.Inner.{readable}
use Rattle.forms.specs.Course.{entry_courses, node_course}
use Rattle.forms.specs.Inner.{stand_of, go}
use Rattle.node_forms.proofs.+put_entry_put_node.Given as goal

abbrev pub decreases-put_entry : goal.decreases-put_entry
decreases-put_entry l = l.levels + l.levels + 1

abbrev pub decreases-put_node : goal.decreases-put_node
decreases-put_node l = l.levels + l.levels

abbrev pub invariant-put_node-loop-out : goal.invariant-put_node-loop-out
invariant-put_node-loop-out l =
    (go l.room (entry_courses (node_course l.image l.v (l.levels - 1)) l.image l.v (readable (entry_at l.q.keys.hashed l.q.keys.reader l.image) (run_at l.image l.q l.s l.k))) (stand_of l.o l.out)
    ≡ go l.room (entry_courses (node_course l.image l.v (l.levels - 1)) l.image l.v (readable (entry_at l.q.keys.hashed l.q.keys.reader l.image) (run_at l.image l.q l.initial.s l.initial.k))) (stand_of l.initial.o l.initial.out))
    × (length l.out ≡ length l.initial.out)

abbrev pub decreases-put_node-loop-out : goal.decreases-put_node-loop-out
decreases-put_node-loop-out l = rest l.image l.q l.s l.k
