-- What was met, or else what is left, decides.
use Rattle.std.proofs.Common.{◌≡◌, drop, true}
use Rattle.error.specs.Answer.{pick}
use Rattle.totals.specs.Inner.{has_lf}
use Rattle.totals.proofs.has_lf.Given as goal

abbrev pub invariant-loop-x : goal.invariant-loop-x
invariant-loop-x l = pick l.any true (has_lf (drop l.x-index l.b)) ≡ has_lf l.b
