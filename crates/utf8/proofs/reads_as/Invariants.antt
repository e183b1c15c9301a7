-- What is left of both decides.
use mathlib.Core.Path.{◌≡◌}
use lib.ListN.{length}
use Rattle.utf8.specs.Text.{lossy, same_bytes}
use Rattle.utf8.proofs.reads_as.Given as goal

abbrev pub invariant-loop-n : goal.invariant-loop-n
invariant-loop-n l = same_bytes (lossy l.rest) l.left ≡ same_bytes (lossy l.name) l.text

abbrev pub decreases-loop-n : goal.decreases-loop-n
decreases-loop-n l = length l.rest
