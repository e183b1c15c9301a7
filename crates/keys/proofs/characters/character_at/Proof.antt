use borrow.Author.Rules.{rules}
use Rattle.keys.proofs.Scalars.{at_two}
use Rattle.keys.proofs.characters.character_at.Statement.{statement}
use Rattle.keys.proofs.characters.character_at.Tie as tie

ruleset turns = (rules, at_two)

pub character_at_spec : {M : Type 1} → statement M
character_at_spec =
    tie.close
    (tie.spec
    (λ c κs. search turns)
    (λ c. search turns)
    (λ c. search turns)
    (λ c κs. search turns)
    (λ c. search turns)
    (λ c. search turns)
    (λ c κs. search turns)
    (λ c κs. search turns)
    (λ c. search turns)
    (λ c κs. search turns)
    (λ c. search turns)
    (λ c κs. search turns)
    (λ c. search turns)
    (λ c κs. search turns)
    (λ c. search turns)
    (λ c κs. search turns)
    (λ c. search turns))
