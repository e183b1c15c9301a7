use Rattle.paths.proofs.Parts.{past_stops}
use Rattle.paths.proofs.split.past.Goals as goal

pub returns-then-is_separator-separators : goal.returns-then-is_separator-separators
returns-then-is_separator-separators c = past_stops _ _ _ _ c.loop-i.invariant _ c.loop-i-test.true c.is_separator.ensures c.if-is_separator-separators.true
