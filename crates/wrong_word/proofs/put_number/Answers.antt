use Rattle.std.proofs.Common.{rules}
use Rattle.wrong_word.proofs.Laws.{little_goes, little_done}
use Rattle.wrong_word.proofs.put_number.Goals as goal

pub loop-preserved : goal.loop-preserved
loop-preserved c = (search rules, little_goes _ _ _ _ _ _ c.loop.invariant.1 _ c.loop-test.true c.put_byte-q.ensures)

pub returns : goal.returns
returns c = little_done _ _ _ _ _ _ c.loop.invariant.1 c.loop-test.false
