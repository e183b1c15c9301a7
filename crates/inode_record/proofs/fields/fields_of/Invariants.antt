use Rattle.inode_record.proofs.Turns.{Going}
use Rattle.inode_record.proofs.fields.fields_of.Given as goal

abbrev pub invariant-loop-i : goal.invariant-loop-i
invariant-loop-i l = Going l.v l.n l.i l.off l.f
