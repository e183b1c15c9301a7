use borrow.Author.Rules.{rules}
use Rattle.node.proofs.Places.{making}
use Rattle.node.proofs.place.place_of.Statement.{statement}
use Rattle.node.proofs.place.place_of.Tie as tie

pub place_of_spec : {M : Type 1} → statement M
place_of_spec =
    tie.close
    (tie.spec
    (λ c. search rules)
    (λ c. search rules)
    (λ c. search rules)
    (λ c. search making)
    (λ c. search making)
    (λ c. search rules)
    (λ c. search rules)
    (λ c. search rules)
    (λ c. search making)
    (λ c. search making))
