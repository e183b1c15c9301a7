use borrow.Author.Rules.{rules}
use Rattle.keys.proofs.PrefixLaws.{never, alike_same, alike_words}
use Rattle.keys.proofs.compare.alike.Statement.{statement}
use Rattle.keys.proofs.compare.alike.Tie as tie

ruleset turns = (rules, never, alike_same, alike_words)

pub alike_spec : {M : Type 1} → statement M
alike_spec =
    tie.close
    (tie.spec
    (λ c. search turns)
    (λ c. search turns)
    (λ c. search turns)
    (λ c. search turns)
    (λ c. search turns)
    (λ c. search turns)
    (λ c κs. search turns)
    (λ c κs. search turns)
    (λ c. search turns))
