use Rattle.std.proofs.Common.{rules}
use Rattle.container_line.proofs.Lines.{volumes_done, volumes_zero, volumes_next}
use Rattle.container_line.proofs.put_volumes.Goals as goal

pub loop-i-preserved-then-oid-eq0 : goal.loop-i-preserved-then-oid-eq0
loop-i-preserved-then-oid-eq0 c =
    (c.loop-i.invariant.0, volumes_zero _ _ _ _ _ _ _ c.loop-i.invariant.1 c.loop-i-test.true _ c.slot_of-oid.ensures c.if-oid-eq0.true)

pub loop-i-preserved : goal.loop-i-preserved
loop-i-preserved c =
    (search rules, volumes_next _ _ _ _ _ _ _ c.loop-i.invariant.1 c.loop-i-test.true _ c.slot_of-oid.ensures _ c.if-oid-eq0.false c.put_word-q.ensures)

pub returns : goal.returns
returns c = volumes_done _ _ _ _ _ _ _ c.loop-i.invariant.1 c.loop-i-test.false
