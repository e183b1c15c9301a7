-- Nothing before the rest is replaced.
use mathlib.Core.Path.{◌≡◌}
use lib.ListN.{length}
use Rattle.utf8.specs.Text.{replaced}
use Rattle.utf8.proofs.is_utf8.Given as goal

abbrev pub invariant-loop-n : goal.invariant-loop-n
invariant-loop-n l = replaced l.rest ≡ replaced l.b

abbrev pub decreases-loop-n : goal.decreases-loop-n
decreases-loop-n l = length l.rest
