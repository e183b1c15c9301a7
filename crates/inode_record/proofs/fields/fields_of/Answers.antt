use Rattle.std.proofs.Common.{arith, rules}
use Rattle.error.proofs.Laws.{step, stop}
use Rattle.inode_record.specs.Fields.{next_off}
use Rattle.inode_record.proofs.Turns.{ended, turn}
use Rattle.inode_record.proofs.fields.fields_of.Goals as goal

pub returns-in_err-head : goal.returns-in_err-head
returns-in_err-head c = turn _ _ _ _ _ c.loop-i.invariant (omega arith) _ (search (rules, stop))

pub returns-in_err-field_at : goal.returns-in_err-field_at
returns-in_err-field_at c = turn _ _ _ _ _ c.loop-i.invariant (omega arith) _ (search (rules, step, stop))

pub loop-i-preserved : goal.loop-i-preserved
unfolding next_off
loop-i-preserved c = record { goes = turn _ _ _ _ _ c.loop-i.invariant (omega arith) _ (search (rules, step)); near = omega (arith, c.loop-i.invariant.near) }

pub returns : goal.returns
returns c = search (rules, ended)
