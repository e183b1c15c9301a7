use borrow.Author.Rules.{rules}
use Rattle.element_lines.specs.Elements.{extent_on}
use Rattle.calls.proofs.Steps.{elements}
use Rattle.element_lines.proofs.extent.extent_on.Statement.{statement}
use Rattle.element_lines.proofs.extent.extent_on.Tie as tie

pub extent_on_spec : {M : Type 1} → statement M
unfolding extent_on
extent_on_spec =
    tie.close
    (tie.spec
    (λ c κs. search rules)
    (λ c. search rules)
    (λ c κs. search rules)
    (λ c. search rules)
    (λ c. search rules)
    (λ c. search elements)
    (λ c. search elements))
