use borrow.Author.Rules.{rules}
use Rattle.measure.proofs.Lines.{lines}
use Rattle.measure.proofs.line.measure_text.Statement.{statement}
use Rattle.measure.proofs.line.measure_text.Tie as tie

pub measure_text_spec : {M : Type 1} → statement M
measure_text_spec =
    tie.close
    (tie.spec
    (λ c κs. search rules)
    (λ c. search rules)
    (λ c κs. search rules)
    (λ c. search rules)
    (λ c. search rules)
    (λ c. search lines)
    (λ c. search lines))
