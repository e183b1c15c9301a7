use borrow.Author.Rules.{rules}
use Rattle.replaced_line.specs.Line.{inode_on}
use Rattle.replaced_line.proofs.ByKind.{kinds}
use Rattle.replaced_line.proofs.kinds.inode_on.Statement.{statement}
use Rattle.replaced_line.proofs.kinds.inode_on.Tie as tie

pub inode_on_spec : {M : Type 1} → statement M
unfolding inode_on
inode_on_spec =
    tie.close
    (tie.spec
    (λ c κs. search rules)
    (λ c. search rules)
    (λ c κs. search rules)
    (λ c. search rules)
    (λ c. search rules)
    (λ c. search kinds)
    (λ c. search kinds))
