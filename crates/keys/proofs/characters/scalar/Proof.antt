use borrow.Author.Rules.{rules}
use Rattle.keys.proofs.characters.scalar.Statement.{statement}
use Rattle.keys.proofs.characters.scalar.Tie as tie
use Rattle.keys.proofs.Scalars.{scalar_none, scalar_one, scalar_two, scalar_three, scalar_four}

ruleset turns = (rules, scalar_none, scalar_one, scalar_two, scalar_three, scalar_four)

pub scalar_spec : {M : Type 1} → statement M
scalar_spec =
    tie.close
    (tie.spec
    (λ c. search turns)
    (λ c. search turns)
    (λ c. search turns)
    (λ c. search turns)
    (λ c. search turns)
    (λ c. search turns)
    (λ c. search turns)
    (λ c. search turns)
    (λ c. search turns)
    (λ c. search turns)
    (λ c. search turns)
    (λ c. search turns)
    (λ c. search turns)
    (λ c. search turns)
    (λ c. search turns)
    (λ c. search turns)
    (λ c. search turns)
    (λ c. search turns)
    (λ c. search turns)
    (λ c. search turns)
    (λ c. search turns)
    (λ c. search turns)
    (λ c. search turns)
    (λ c. search turns)
    (λ c. search turns)
    (λ c. search turns)
    (λ c. search turns)
    (λ c. search turns)
    (λ c. search turns)
    (λ c. search turns)
    (λ c. search turns))
