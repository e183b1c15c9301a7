use Rattle.lists.proofs.OnWay.{way_at}
use borrow.Author.Rules.{rules}
use Rattle.lists.proofs.ways.inode_on.Statement.{statement}
use Rattle.lists.proofs.ways.inode_on.Tie as tie

pub inode_on_spec : {M : Type 1} → statement M
inode_on_spec =
    tie.close
    (tie.spec
    (λ c κs. search rules)
    (λ c κs. search rules)
    (λ c. search rules)
    (λ c κs. search rules)
    (λ c. search (rules, way_at))
    (λ c κs. search rules)
    (λ c. search rules))
