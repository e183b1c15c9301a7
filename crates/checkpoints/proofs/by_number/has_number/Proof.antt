use borrow.Author.Rules.{rules}
use Rattle.checkpoints.proofs.NumberTurns.{numbering}
use Rattle.checkpoints.proofs.by_number.has_number.Statement.{statement}
use Rattle.checkpoints.proofs.by_number.has_number.Tie as tie

pub has_number_spec : {M : Type 1} → statement M
has_number_spec =
    tie.close
    (tie.spec
    (λ c κs. search rules)
    (λ c. search rules)
    (λ c. search rules)
    (λ c. search numbering)
    (λ c. search numbering))
