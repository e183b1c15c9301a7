use borrow.Author.Rules.{rules}
use Rattle.checkpoints.proofs.NumberTurns.{numbering}
use Rattle.checkpoints.proofs.by_number.numbered_at.Statement.{statement}
use Rattle.checkpoints.proofs.by_number.numbered_at.Tie as tie

pub numbered_at_spec : {M : Type 1} → statement M
numbered_at_spec =
    tie.close
    (tie.spec
    (λ c κs. search rules)
    (λ c κs. search rules)
    (λ c κs. search rules)
    (λ c. search numbering)
    (λ c. search numbering))
