-- What is left, written from here, is the whole.
use mathlib.Core.Path.{◌≡◌}
use mathlib.Core.List.{[]}
use lib.ListN.{length, drop}
use Rattle.text.specs.Output.{at, output_of, puts}
use Rattle.text.specs.Words.{pairs}
use Rattle.text.proofs.put_each_hex.Given as goal

abbrev pub invariant-loop-x : goal.invariant-loop-x
invariant-loop-x l = (puts l.room (pairs (drop l.x-index l.b) []) (at l.out l.n) ≡ puts l.room (pairs l.b []) (output_of l.fn.p l.fn.out)) × (length l.out ≡ length l.fn.out)
