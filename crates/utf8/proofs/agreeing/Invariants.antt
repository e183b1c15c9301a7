-- `n` bytes agree, and what is left is held to what is left of the row.
use Prim.Native.Nat.{◌+◌, ◌-◌, ◌≤◌}
use mathlib.Core.Path.{◌≡◌}
use lib.ListN.{length, drop}
use Rattle.utf8.specs.Text.{◌to◌, tails, agree}
use Rattle.utf8.proofs.agreeing.Given as goal

abbrev pub invariant-loop-n : goal.invariant-loop-n
invariant-loop-n l = (l.n ≤ length l.rest) × (l.n + agree (tails (l.from to l.to) (l.count - l.n)) (drop l.n l.rest) ≡ agree (tails (l.low to l.high) l.count) l.rest)
