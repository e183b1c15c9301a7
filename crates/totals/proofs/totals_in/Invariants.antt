-- What was counted, and what is left counts for, is the whole; and no count is above the number of bytes that were passed.
use Rattle.std.proofs.Common.{◌≡◌, ◌-◌, ◌≤◌, length}
use Rattle.totals.specs.Totals.{plus, totals_of}
use Rattle.totals.proofs.Turns.{Few}
use Rattle.totals.proofs.totals_in.Given as goal

abbrev pub invariant-loop-rest : goal.invariant-loop-rest
invariant-loop-rest l = (plus l.t (totals_of l.rest) ≡ totals_of l.text) × (length l.rest ≤ length l.text) × Few (length l.text - length l.rest) l.t

abbrev pub decreases-loop-rest : goal.decreases-loop-rest
decreases-loop-rest l = length l.rest
