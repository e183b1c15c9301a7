use Rattle.text.proofs.Numerals.{Left}
use Rattle.text.proofs.decimal.Given as goal

abbrev pub invariant-loop-m : goal.invariant-loop-m
invariant-loop-m l = Left l.n l.m l.i l.ds

abbrev pub decreases-loop-m : goal.decreases-loop-m
decreases-loop-m l = l.m
