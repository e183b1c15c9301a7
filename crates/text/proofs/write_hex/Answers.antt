use borrow.Author.Rules.{rules}
use Rattle.text.proofs.Loops.{hex_next}
use Rattle.text.proofs.write_hex.Goals as goal

pub loop-i-preserved : goal.loop-i-preserved
loop-i-preserved c = search (rules, hex_next)
