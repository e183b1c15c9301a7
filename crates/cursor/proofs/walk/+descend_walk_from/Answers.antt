-- The cycle of `cursor::walk::descend` and `walk_from` meets its contracts.
use Rattle.std.proofs.Common.{rules, arith}
use Rattle.btree.proofs.Turns.{turns, each_over}
use Rattle.cursor.proofs.Left.{made, made_passed, final, as_node_leaf, gone_in, left_index, known_child, into_passed, into_kept}
use Rattle.cursor.proofs.walk.+descend_walk_from.Goals as goal

pub descend-returns-then-level-eq0 : goal.descend-returns-then-level-eq0
descend-returns-then-level-eq0 t c = search (turns, made)

pub descend-returns-then-m-level : goal.descend-returns-then-m-level
descend-returns-then-m-level t c = search (turns, made)

pub descend-walk_from-requires : goal.descend-walk_from-requires
descend-walk_from-requires t c = (search rules, (search rules, known_child _ _ _ _ (omega arith) c.requires.3))

pub descend-returns : goal.descend-returns
descend-returns t c = search (rules, gone_in, left_index)

pub walk_from-returns-then-node-eq1 : goal.walk_from-returns-then-node-eq1
walk_from-returns-then-node-eq1 t c = search (turns, as_node_leaf)

pub walk_from-loop-e-init : goal.walk_from-loop-e-init
walk_from-loop-e-init t c = search (turns, made)

pub walk_from-returns-in-Over : goal.walk_from-returns-in-Over
walk_from-returns-in-Over t c =
    made_passed _ _ _ _ _ _ _ _ _ c.part_step.ensures (each_over _ _ _ _ _ _ _ _ c.loop-e.invariant _ c.next_child-t.ensures (search rules))

pub walk_from-returns-in-Stop : goal.walk_from-returns-in-Stop
walk_from-returns-in-Stop t c = search (turns, made)

pub walk_from-returns-in-No : goal.walk_from-returns-in-No
walk_from-returns-in-No t c = search (turns, made)

pub walk_from-returns-in-At : goal.walk_from-returns-in-At
walk_from-returns-in-At t c = search (final, into_kept)

pub walk_from-loop-e-preserved : goal.walk_from-loop-e-preserved
walk_from-loop-e-preserved t c = search (rules, into_passed)

pub walk_from-returns-in-End : goal.walk_from-returns-in-End
walk_from-returns-in-End t c = search (final, into_kept)

pub walk_from-returns-in-No-found : goal.walk_from-returns-in-No-found
walk_from-returns-in-No-found t c = search (final, into_kept)
