use borrow.Author.Rules.{rules}
use Rattle.node.proofs.Places.{holding}
use Rattle.node.proofs.place.value_of.Statement.{statement}
use Rattle.node.proofs.place.value_of.Tie as tie

pub value_of_spec : {M : Type 1} → statement M
value_of_spec =
    tie.close
    (tie.spec
    (λ c κs. search rules)
    (λ c κs. search rules)
    (λ c. search holding))
