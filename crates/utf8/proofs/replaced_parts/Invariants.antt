-- `count` parts before the rest are replaced.
use Prim.Native.Nat.{◌+◌, ◌≤◌}
use mathlib.Core.Path.{◌≡◌}
use lib.ListN.{length}
use Rattle.utf8.specs.Text.{replaced}
use Rattle.utf8.proofs.replaced_parts.Given as goal

abbrev pub invariant-loop-n : goal.invariant-loop-n
invariant-loop-n l = (l.count + length l.rest ≤ length l.b) × (l.count + replaced l.rest ≡ replaced l.b)

abbrev pub decreases-loop-n : goal.decreases-loop-n
decreases-loop-n l = length l.rest
