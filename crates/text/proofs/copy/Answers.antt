use borrow.Author.Rules.{rules}
use Rattle.text.proofs.Loops.{copy_start, copy_next, copy_end}
use Rattle.text.proofs.copy.Goals as goal

pub loop-i-init : goal.loop-i-init
loop-i-init c = (copy_start _ _ c.requires, c.requires)

pub loop-i-preserved : goal.loop-i-preserved
loop-i-preserved c = search (rules, copy_next)

pub returns : goal.returns
returns c = search (rules, copy_end)
