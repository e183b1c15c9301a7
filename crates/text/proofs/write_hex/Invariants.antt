use mathlib.Core.Path.{◌≡◌}
use lib.ListN.{length}
use Rattle.text.proofs.Loops.{Hexed}
use Rattle.text.proofs.write_hex.Given as goal

abbrev pub invariant-loop-i : goal.invariant-loop-i
invariant-loop-i l = Hexed l.b l.fn.out l.at l.out l.i × (length l.out ≡ length l.fn.out)
