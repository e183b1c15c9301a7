-- What is left, written from here, is the whole.
use mathlib.Core.Path.{◌≡◌}
use lib.ListN.{length, drop}
use Rattle.text.specs.Output.{at, output_of, puts}
use Rattle.text.proofs.put_each.Given as goal

abbrev pub invariant-loop-b : goal.invariant-loop-b
invariant-loop-b l = (puts l.room (drop l.b-index l.text) (at l.out l.n) ≡ puts l.room l.text (output_of l.fn.p l.fn.out)) × (length l.out ≡ length l.fn.out)
