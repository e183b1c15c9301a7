use Rattle.lists.proofs.OnWay.{leads_to, begun}
use borrow.Author.Rules.{rules}
use Rattle.lists.proofs.ways.inode_begun.Statement.{statement}
use Rattle.lists.proofs.ways.inode_begun.Tie as tie

pub inode_begun_spec : {M : Type 1} → statement M
inode_begun_spec =
    tie.close
    (tie.spec
    (λ c κs. search rules)
    (λ c κs. search (rules, leads_to))
    (λ c κs. search rules)
    (λ c. search rules)
    (λ c κs. search rules)
    (λ c. search rules)
    (λ c. search rules)
    (λ c. search rules)
    (λ c. search begun)
    (λ c. search begun)
    (λ c. search begun)
    (λ c. search begun))
