use Rattle.lists.proofs.OnWay.{leads_from}
use borrow.Author.Rules.{rules}
use Rattle.lists.proofs.ways.inode_way.Statement.{statement}
use Rattle.lists.proofs.ways.inode_way.Tie as tie

pub inode_way_spec : {M : Type 1} → statement M
inode_way_spec =
    tie.close
    (tie.spec
    (λ c κs. search rules)
    (λ c κs. search rules)
    (λ c. search (rules, leads_from)))
