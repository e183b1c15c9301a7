-- The reading of what is left, written from here, is the whole.
use mathlib.Core.Path.{◌≡◌}
use mathlib.Core.List.{[]}
use lib.ListN.{length}
use Rattle.utf8.specs.Text.{lossy}
use Rattle.text.specs.Output.{at, output_of, puts}
use Rattle.text.specs.Words.{pairs}
use Rattle.text.proofs.put_lossy_hex.Given as goal

abbrev pub invariant-loop-len : goal.invariant-loop-len
invariant-loop-len l = (puts l.room (pairs (lossy l.rest) []) (at l.out l.n) ≡ puts l.room (pairs (lossy l.name) []) (output_of l.fn.p l.fn.out)) × (length l.out ≡ length l.fn.out)

abbrev pub decreases-loop-len : goal.decreases-loop-len
decreases-loop-len l = length l.rest
