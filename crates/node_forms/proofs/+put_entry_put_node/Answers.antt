-- The cycle of `node_forms::put_entry` and `put_node` meets its contracts.
use Rattle.std.proofs.Common.{rules, refl}
use Rattle.lists.proofs.Reading.{less_at, less_passed, readable_over, readable_no}
use Rattle.node_forms.proofs.Laws.{nodes, inode_way_same, node_no, node_whole, entries_passed, entries_next, entry_whole}
use Rattle.node_forms.proofs.+put_entry_put_node.Goals as goal
use Rattle.lookup.specs.declared.counted.Counted.{Counted}
use Rattle.std.specs.Prelude.{ℕ}

pub put_entry-returns-in-Err : goal.put_entry-returns-in-Err
put_entry-returns-in-Err t c = search nodes

pub put_entry-returns : goal.put_entry-returns
put_entry-returns t c =
    let a : (Counted ℕ) = record { nodes = c.args.p.nodes; answer = c.put_entry_line.result } in
    entry_whole _ _ _ c.args.v _ c.args.p a _ _ refl c.put_entry_line.ensures _ _ c.put_node-b.ensures c.put_close.ensures

pub put_node-returns-then-levels-eq0 : goal.put_node-returns-then-levels-eq0
put_node-returns-then-levels-eq0 t c = search (nodes, c.refuse.ensures)

pub put_node-put_head-o-requires : goal.put_node-put_head-o-requires
put_node-put_head-o-requires t c = search (rules, inode_way_same)

pub put_node-returns-in-Over : goal.put_node-returns-in-Over
put_node-returns-in-Over t c =
    node_whole _ _ c.args.v _ _ c.if-levels-eq0.false c.inode_on-found.result c.inode_on-found.ensures c.args.p _ _ c.read-a.result _ _ _ _ _ _ _ c.in-Ok.is c.search-q.ensures c.list_on-s.ensures c.read-a.ensures c.put_head-o.ensures c.loop-out.invariant.0
    (search (rules, readable_over)) c.put_close.ensures

pub put_node-returns-in-Refused : goal.put_node-returns-in-Refused
put_node-returns-in-Refused t c =
    node_whole _ _ c.args.v _ _ c.if-levels-eq0.false c.inode_on-found.result c.inode_on-found.ensures c.args.p _ _ c.read-a.result _ _ _ _ _ _ _ c.in-Ok.is c.search-q.ensures c.list_on-s.ensures c.read-a.ensures c.put_head-o.ensures c.loop-out.invariant.0
    (search (rules, readable_no)) c.put_close-in-Refused.ensures

pub put_node-loop-out-smaller-in-Passed : goal.put_node-loop-out-smaller-in-Passed
put_node-loop-out-smaller-in-Passed t c = less_passed _ _ _ _ _ _ c.entry_in.ensures _ (search rules) c.next-s.ensures

pub put_node-loop-out-preserved-in-Passed : goal.put_node-loop-out-preserved-in-Passed
put_node-loop-out-preserved-in-Passed t c =
    (entries_passed _ _ _ c.args.v _ _ _ _ _ c.loop-out.invariant.0 _ c.entry_in.ensures _ (search rules) c.next-s.ensures, c.loop-out.invariant.1)

pub put_node-loop-out-smaller : goal.put_node-loop-out-smaller
put_node-loop-out-smaller t c = less_at _ _ _ _ _ _ c.entry_in.ensures _ _ c.in-Element.is

pub put_node-loop-out-preserved : goal.put_node-loop-out-preserved
put_node-loop-out-preserved t c =
    (entries_next _ _ _ c.args.v _ _ _ _ _ c.loop-out.invariant.0 _ c.entry_in.ensures _ _ _ (search rules) c.put_entry-o.ensures, search rules)

pub put_node-returns : goal.put_node-returns
put_node-returns t c =
    node_no _ _ c.args.v _ _ c.if-levels-eq0.false c.inode_on-found.result c.inode_on-found.ensures c.args.p _ _ c.read.result c.in-Err.is c.read.ensures
