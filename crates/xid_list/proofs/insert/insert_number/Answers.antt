use Rattle.std.proofs.Common.{rules}
use Rattle.xid_list.proofs.Held.{insert_held}
use Rattle.xid_list.proofs.Inserts.{insert_turn, insert_done}
use Rattle.xid_list.proofs.insert.insert_number.Goals as goal

pub loop-j-preserved : goal.loop-j-preserved
loop-j-preserved c = (search rules, insert_turn _ _ _ _ _ c.loop-j.invariant.1 c.loop-j-test.true _ _ c.carry-x.ensures.0 c.carry-x.ensures.1)

pub returns : goal.returns
returns c = let e = insert_done _ _ _ _ _ c.loop-j.invariant.1 c.loop-j.auto.j-end c.loop-j-test.false _ c.put_little.ensures in (e, search (rules, insert_held, e))
