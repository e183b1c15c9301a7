use native.Mathlib.Omega.{arith}
use Rattle.utf8.proofs.Rows.{row_goes}
use Rattle.utf8.proofs.agreeing.Goals as goal

pub loop-n-preserved : goal.loop-n-preserved
loop-n-preserved c = (omega arith, row_goes _ _ _ _ _ _ c.loop-n.invariant.1 (omega arith) c.loop-n-test.true (omega arith) (omega arith))
