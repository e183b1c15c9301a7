use mathlib.Core.Path.{refl}
use native.Mathlib.Omega.{arith}
use Rattle.std.proofs.lemmas.Result.{err_from_is_err_and}
use Rattle.lookup.proofs.Halving.{halving_no, halving_above}
use Rattle.lookup.proofs.descent.not_above.Goals as goal

pub returns-in_err-entry_above : goal.returns-in_err-entry_above
returns-in_err-entry_above c = let p = err_from_is_err_and c.from_residual.result c.from_residual.ensures.1 in rw (p.1, p.2) (halving_no _ _ _ _ _ _ _ c.loop-lo.invariant.1 c.loop-lo-test.true _ refl _ c.entry_above.ensures _ c.in_err-entry_above.was)

pub loop-lo-preserved-then-branch : goal.loop-lo-preserved-then-branch
loop-lo-preserved-then-branch c = (omega (arith, c.loop-lo.invariant.0, c.loop-lo-test.true), halving_above _ _ _ _ _ _ _ c.loop-lo.invariant.1 c.loop-lo-test.true _ refl _ c.entry_above.ensures _ c.in_ok-entry_above.was c.if-branch.true)
