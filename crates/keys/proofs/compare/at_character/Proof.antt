use borrow.Author.Rules.{rules}
use Rattle.keys.proofs.PrefixLaws.{never_both}
use Rattle.keys.proofs.compare.at_character.Statement.{statement}
use Rattle.keys.proofs.compare.at_character.Tie as tie

ruleset turns = (rules, never_both)

pub at_character_spec : {M : Type 1} → statement M
at_character_spec =
    tie.close
    (tie.spec
    (λ c. search turns)
    (λ c. search turns)
    (λ c. search turns)
    (λ c. search turns)
    (λ c. search turns)
    (λ c. search turns)
    (λ c. search turns)
    (λ c. search turns)
    (λ c. search turns)
    (λ c. search turns)
    (λ c. search turns))
