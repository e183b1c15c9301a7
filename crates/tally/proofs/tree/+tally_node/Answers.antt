-- `tally::tree::tally_node` meets its contract.
use Rattle.std.proofs.Common.{rules, ◌-◌}
use Rattle.lists.proofs.Reading.{less_at}
use Rattle.tally.specs.Weight.{weight}
use Rattle.tally.proofs.Counting.{nodes, weight_no, entered_small, weigh_ended, weigh_passed, weigh_next, weight_done}
use Rattle.tally.proofs.tree.+tally_node.Goals as goal

pub returns-then-levels-eq0 : goal.returns-then-levels-eq0
returns-then-levels-eq0 t c = search nodes

pub returns-in-Over : goal.returns-in-Over
returns-in-Over t c =
    weight_done c.args.image.now c.args.v _ _ c.if-levels-eq0.false _ c.inode_on.ensures _ _ _ _ _ c.in-Ok.is c.search-q.ensures c.list_on-s.ensures c.own_tally-t.ensures
    (weigh_ended (weight c.args.image.now c.args.v (c.args.levels - 1)) _ _ _ _ _ _ c.loop-t.invariant.0 c.loop-t.invariant.1 _ c.entry_in.ensures c.in-Over.is)

pub loop-t-smaller-in-Passed : goal.loop-t-smaller-in-Passed
loop-t-smaller-in-Passed t c = search nodes

pub loop-t-preserved-in-Passed : goal.loop-t-preserved-in-Passed
loop-t-preserved-in-Passed t c =
    (weigh_passed (weight c.args.image.now c.args.v (c.args.levels - 1)) _ _ _ _ _ _ c.loop-t.invariant.0 c.loop-t.invariant.1 _ c.entry_in.ensures _ (search rules) c.next-s.ensures, c.loop-t.invariant.1)

pub loop-t-smaller : goal.loop-t-smaller
loop-t-smaller t c = less_at _ _ _ _ _ _ c.entry_in.ensures _ _ c.in-Element.is

pub loop-t-preserved : goal.loop-t-preserved
loop-t-preserved t c = (
  weigh_next (weight c.args.image.now c.args.v (c.args.levels - 1)) _ _ _ _ _ _ c.loop-t.invariant.0 c.loop-t.invariant.1 _ c.entry_in.ensures _ _ _ _ c.in-Element.is c.tally_node.ensures c.with_entry-t.ensures,
  entered_small _ _ _ c.loop-t.invariant.1 c.with_entry-t.ensures,
)

pub returns-in_default : goal.returns-in_default
returns-in_default t c = weight_no c.args.image.now c.args.v _ _ c.if-levels-eq0.false _ c.inode_on.ensures _ c.in_default.is
