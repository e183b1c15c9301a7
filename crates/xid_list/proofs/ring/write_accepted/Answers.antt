use Rattle.std.proofs.Common.{arith, rules}
use Rattle.xid_list.proofs.Rings.{stored_start, stored_none, stored_room, stored_one}
use Rattle.xid_list.proofs.ring.write_accepted.Goals as goal

pub loop-i-init : goal.loop-i-init
loop-i-init c = (search rules, stored_start _ _ _ _ _)

pub loop-i-preserved-in-Some : goal.loop-i-preserved-in-Some
loop-i-preserved-in-Some c =
    let s = c.loop-i.invariant.1 in
    let u = stored_room _ _ _ _ _ _ _ _ c.loop-i-test.true c.loop-i.auto.i s _ c.accepted_block.ensures _ c.in-Some.is (omega (arith, c.requires.1, c.loop-i.invariant.0)) in
    (search rules, stored_one _ _ _ _ _ _ _ _ c.loop-i-test.true c.loop-i.auto.i s _ c.accepted_block.ensures _ c.in-Some.is _ u c.insert_number.ensures.0 c.insert_number.ensures.1)

pub loop-i-preserved : goal.loop-i-preserved
loop-i-preserved c = (c.loop-i.invariant.0, search (rules, stored_none))
