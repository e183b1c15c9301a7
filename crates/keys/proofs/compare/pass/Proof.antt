use borrow.Author.Rules.{rules}
use Rattle.keys.proofs.PrefixLaws.{pass_ascii, pass_apart}
use Rattle.keys.proofs.compare.pass.Statement.{statement}
use Rattle.keys.proofs.compare.pass.Tie as tie

ruleset turns = (rules, pass_ascii, pass_apart)

pub pass_spec : {M : Type 1} → statement M
pass_spec =
    tie.close
    (tie.spec
    (λ c. search turns)
    (λ c. search turns)
    (λ c. search turns)
    (λ c. search turns)
    (λ c κs. search turns)
    (λ c. search turns)
    (λ c κs. search turns)
    (λ c κs. search turns)
    (λ c. search turns)
    (λ c. search turns)
    (λ c. search turns)
    (λ c κs. search turns)
    (λ c. search turns)
    (λ c. search turns))
