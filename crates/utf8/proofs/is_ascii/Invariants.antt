-- The greatest byte that was met, and what is left, decide.
use mathlib.Core.Path.{◌≡◌}
use lib.ListN.{drop}
use Rattle.utf8.specs.Text.{ascii}
use Rattle.utf8.proofs.Ascii.{ascii_from}
use Rattle.utf8.proofs.is_ascii.Given as goal

abbrev pub invariant-loop-x : goal.invariant-loop-x
invariant-loop-x l = ascii_from l.top (drop l.x-index l.b) ≡ ascii l.b
