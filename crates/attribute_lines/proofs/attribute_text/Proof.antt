use borrow.Author.Rules.{rules}
use Rattle.attribute_lines.specs.Attributes.{attribute_counted}
use Rattle.attribute_lines.proofs.Steps.{onward}
use Rattle.attribute_lines.proofs.attribute_text.Statement.{statement}
use Rattle.attribute_lines.proofs.attribute_text.Tie as tie

pub attribute_text_spec : {M : Type 1} → statement M
unfolding attribute_counted
attribute_text_spec =
    tie.close
    (tie.spec
    (λ c κs. search rules)
    (λ c. search rules)
    (λ c κs. search rules)
    (λ c. search rules)
    (λ c. search rules)
    (λ c. search onward)
    (λ c. search onward))
