use Rattle.std.proofs.Common.{rules, refl}
use Rattle.totals.proofs.Turns.{lf_over, lf_here, lf_later}
use Rattle.totals.proofs.has_lf.Goals as goal
use Rattle.totals.proofs.has_lf.Goals.{then-x-eq10, else-x-eq10}

pub loop-x-init : goal.loop-x-init
loop-x-init c = search (rules, refl)

pub loop-x-preserved : goal.loop-x-preserved
loop-x-preserved c =
    elim c.if-x-eq10.branch [ then-x-eq10 w ↦ rw w.any-is (lf_here c.args.b.now _ c.loop-x.any _ c.loop-x.invariant c.loop-x-test.true w.if-x-eq10.true) | else-x-eq10 w ↦ rw w.any-is (lf_later c.args.b.now _ c.loop-x.any _ c.loop-x.invariant c.loop-x-test.true w.if-x-eq10.false) ]

pub returns : goal.returns
returns c = search (rules, lf_over)
