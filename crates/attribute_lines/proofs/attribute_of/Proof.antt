use borrow.Author.Rules.{rules}
use Rattle.attribute_lines.proofs.Steps.{onward}
use Rattle.attribute_lines.proofs.attribute_of.Statement.{statement}
use Rattle.attribute_lines.proofs.attribute_of.Tie as tie

pub attribute_of_spec : {M : Type 1} → statement M
attribute_of_spec =
    tie.close
    (tie.spec
    (λ c. search rules)
    (λ c κs. search rules)
    (λ c. search rules)
    (λ c κs. search rules)
    (λ c. search rules)
    (λ c. search onward)
    (λ c. search rules)
    (λ c. search onward))
