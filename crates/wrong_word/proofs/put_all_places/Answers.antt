use Rattle.std.proofs.Common.{rules}
use Rattle.wrong_word.proofs.Laws.{places_goes, places_done}
use Rattle.wrong_word.proofs.put_all_places.Goals as goal

pub loop-i-preserved : goal.loop-i-preserved
loop-i-preserved c = (search rules, places_goes _ _ _ _ _ _ _ c.loop-i.invariant.1 _ c.loop-i-test.true c.put_at-q.ensures)

pub returns : goal.returns
returns c = places_done _ _ _ _ _ _ _ c.loop-i.invariant.1 c.loop-i-test.false
