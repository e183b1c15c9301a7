use borrow.Author.Rules.{rules}
use Rattle.cursor.proofs.steps.whole.Statement.{statement}
use Rattle.cursor.proofs.steps.whole.Tie as tie

pub whole_spec : {M : Type 1} → statement M
whole_spec =
    tie.close
    (tie.spec
    (λ c κs. search rules)
    (λ c. cc))
