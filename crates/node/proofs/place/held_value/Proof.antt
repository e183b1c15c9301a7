use borrow.Author.Rules.{rules}
use Rattle.node.proofs.Places.{holding}
use Rattle.node.proofs.place.held_value.Statement.{statement}
use Rattle.node.proofs.place.held_value.Tie as tie

pub held_value_spec : {M : Type 1} → statement M
held_value_spec =
    tie.close
    (tie.spec
    (λ c κs. search rules)
    (λ c. search holding)
    (λ c κs. search rules)
    (λ c. search holding)
    (λ c. search holding))
