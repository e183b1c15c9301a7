use borrow.Author.Rules.{rules}
use Rattle.checkpoints.proofs.NumberTurns.{chosen}
use Rattle.checkpoints.proofs.by_number.checkpoint_by.Statement.{statement}
use Rattle.checkpoints.proofs.by_number.checkpoint_by.Tie as tie

pub checkpoint_by_spec : {M : Type 1} → statement M
checkpoint_by_spec =
    tie.close
    (tie.spec
    (λ c. search rules)
    (λ c κs. search rules)
    (λ c. search rules)
    (λ c κs. search rules)
    (λ c. search chosen)
    (λ c. search chosen))
