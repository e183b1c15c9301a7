use lib.ListN.{length-drop}
use native.Mathlib.Omega.{arith}
use Rattle.totals.proofs.Turns.{block_passed}
use Rattle.totals.proofs.past_blocks.Goals as goal

pub loop-rest-preserved : goal.loop-rest-preserved
loop-rest-preserved c =
    let e = block_passed c.loop-rest.rest.now _ c.loop-rest-test.true (rw c.split_at.ensures.front at c.has_lf.ensures) c.if-has_lf.false in
    rw c.split_at.ensures.back (omega (arith, length-drop 64 c.loop-rest.rest.now))
