use borrow.Author.Rules.{rules}
use Rattle.checkpoints.proofs.Choosing.{choices}
use Rattle.checkpoints.proofs.checkpoint.is_older.Statement.{statement}
use Rattle.checkpoints.proofs.checkpoint.is_older.Tie as tie

pub is_older_spec : {M : Type 1} → statement M
is_older_spec =
    tie.close
    (tie.spec
    (λ c. search rules)
    (λ c κs. search rules)
    (λ c. search rules)
    (λ c. search rules)
    (λ c. search rules)
    (λ c. search choices)
    (λ c. search choices)
    (λ c. search choices))
