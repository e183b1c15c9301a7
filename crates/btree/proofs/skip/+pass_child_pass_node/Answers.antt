-- The cycle of `btree::skip::pass_child` and `pass_node` meets its contracts.
use Rattle.btree.proofs.Nth.{indexes, nodes, made_left, turn_over}
use Rattle.std.proofs.Common.{rules}
use Rattle.btree.proofs.skip.+pass_child_pass_node.Goals as goal

pub pass_child-returns-then-level-eq0 : goal.pass_child-returns-then-level-eq0
pass_child-returns-then-level-eq0 t c k = search nodes

pub pass_child-returns-then-m-level : goal.pass_child-returns-then-m-level
pass_child-returns-then-m-level t c k = search nodes

pub pass_child-returns : goal.pass_child-returns
pass_child-returns t c k = let p = c.pass_node.ensures k in search nodes

pub pass_node-returns-then-node-eq1 : goal.pass_node-returns-then-node-eq1
pass_node-returns-then-node-eq1 t c k = let p = c.pass_leaf.ensures c.args.nodes (k c.args.nodes) in search nodes

pub pass_node-loop-m-init : goal.pass_node-loop-m-init
pass_node-loop-m-init t c k = search nodes

pub pass_node-returns-in-Over : goal.pass_node-returns-in-Over
pass_node-returns-in-Over t c k =
    made_left _ _ _ _ _ c.pass_of.ensures (turn_over _ _ _ _ _ _ k _ _ (c.loop-m.invariant k) _ c.next_child-t.ensures (search rules))

pub pass_node-returns-in-Stop : goal.pass_node-returns-in-Stop
pass_node-returns-in-Stop t c k = let p = c.loop-m.invariant k in search indexes

pub pass_node-returns-in-At : goal.pass_node-returns-in-At
pass_node-returns-in-At t c k = let p = c.loop-m.invariant k in search indexes

pub pass_node-loop-m-preserved : goal.pass_node-loop-m-preserved
pass_node-loop-m-preserved t c k = let p = c.loop-m.invariant k in search indexes

pub pass_node-returns-in-End : goal.pass_node-returns-in-End
pass_node-returns-in-End t c k = let p = c.loop-m.invariant k in search indexes

pub pass_node-returns-in-No-pass : goal.pass_node-returns-in-No-pass
pass_node-returns-in-No-pass t c k = let p = c.loop-m.invariant k in search indexes

pub pass_node-returns-in-No : goal.pass_node-returns-in-No
pass_node-returns-in-No t c k = let p = c.loop-m.invariant k in search indexes
