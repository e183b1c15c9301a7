use borrow.Author.Rules.{rules}
use Rattle.keys.proofs.Scalars.{at_three}
use Rattle.keys.proofs.characters.of_three.Statement.{statement}
use Rattle.keys.proofs.characters.of_three.Tie as tie

ruleset turns = (rules, at_three)

pub of_three_spec : {M : Type 1} → statement M
of_three_spec =
    tie.close
    (tie.spec
    (λ c κs. search turns)
    (λ c. search turns)
    (λ c. search turns)
    (λ c κs. search turns)
    (λ c κs. search turns)
    (λ c. search turns)
    (λ c. search turns)
    (λ c κs. search turns)
    (λ c κs. search turns)
    (λ c. search turns)
    (λ c κs. search turns)
    (λ c. search turns))
