-- The reading of what is left, written from here, is the whole.
use mathlib.Core.Path.{◌≡◌}
use lib.ListN.{length}
use Rattle.text.specs.Output.{at, output_of, puts}
use Rattle.feed.specs.Fed.{written_as}
use Rattle.feed.proofs.pieces.put_pieces.Given as goal

abbrev pub invariant-loop-rest : goal.invariant-loop-rest
invariant-loop-rest l = (puts l.room (written_as l.marks l.rest) (at l.out l.n) ≡ puts l.room (written_as l.marks l.b) (output_of l.fn.p l.fn.out)) × (length l.out ≡ length l.fn.out)

abbrev pub decreases-loop-rest : goal.decreases-loop-rest
decreases-loop-rest l = length l.rest
