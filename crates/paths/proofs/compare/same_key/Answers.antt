use Rattle.paths.proofs.Keys.{key_stops, key_done}
use Rattle.paths.proofs.compare.same_key.Goals as goal

pub returns-then-fold : goal.returns-then-fold
returns-then-fold c = key_stops _ _ _ _ c.if-a-b.false _ _ c.loop-i.invariant c.loop-i-test.true _ _ c.fold.ensures c.fold-in-loop-i.ensures c.if-fold.true

pub returns : goal.returns
returns c = key_done _ _ _ _ c.if-a-b.false _ _ c.loop-i.invariant c.loop-i-test.false
