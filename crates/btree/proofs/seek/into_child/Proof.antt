use borrow.Author.Rules.{rules}
use Rattle.btree.proofs.seek.into_child.Statement.{statement}
use Rattle.btree.proofs.seek.into_child.Tie as tie

pub into_child_spec : {M : Type 1} → statement M
into_child_spec =
    tie.close
    (tie.spec
    (λ c κs. search rules)
    (λ c. search rules)
    (λ c κs. search rules)
    (λ c. cc))
