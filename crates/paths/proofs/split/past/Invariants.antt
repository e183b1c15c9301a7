use Rattle.std.proofs.Common.{◌≡◌, ◌+◌, drop}
use Rattle.paths.specs.Inner.{leading}
use Rattle.paths.proofs.split.past.Given as goal

abbrev pub invariant-loop-i : goal.invariant-loop-i
invariant-loop-i l = l.i + leading l.separators (drop l.i l.path) ≡ l.at + leading l.separators (drop l.at l.path)
