use borrow.Author.Rules.{rules}
use Rattle.element_lines.specs.Elements.{entry_counted}
use Rattle.calls.proofs.Steps.{elements}
use Rattle.element_lines.proofs.entry.entry_text.Statement.{statement}
use Rattle.element_lines.proofs.entry.entry_text.Tie as tie

pub entry_text_spec : {M : Type 1} → statement M
unfolding entry_counted
entry_text_spec =
    tie.close
    (tie.spec
    (λ c κs. search rules)
    (λ c. search rules)
    (λ c κs. search rules)
    (λ c. search rules)
    (λ c. search rules)
    (λ c. search elements)
    (λ c. search elements))
