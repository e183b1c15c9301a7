use borrow.Author.Rules.{rules}
use Rattle.attribute_lines.proofs.Steps.{onward}
use Rattle.attribute_lines.proofs.streamed_of.Statement.{statement}
use Rattle.attribute_lines.proofs.streamed_of.Tie as tie

pub streamed_of_spec : {M : Type 1} → statement M
streamed_of_spec =
    tie.close
    (tie.spec
    (λ c κs. search rules)
    (λ c. search rules)
    (λ c κs. search rules)
    (λ c. search rules)
    (λ c. search rules)
    (λ c. search onward)
    (λ c. search onward))
