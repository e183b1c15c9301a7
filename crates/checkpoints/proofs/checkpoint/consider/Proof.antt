use borrow.Author.Rules.{rules}
use Rattle.checkpoints.proofs.Choosing.{choices}
use Rattle.checkpoints.proofs.checkpoint.consider.Statement.{statement}
use Rattle.checkpoints.proofs.checkpoint.consider.Tie as tie

pub consider_spec : {M : Type 1} → statement M
consider_spec =
    tie.close
    (tie.spec
    (λ c κs. search rules)
    (λ c κs. search rules)
    (λ c. search choices)
    (λ c κs. search rules)
    (λ c. search rules)
    (λ c. search rules)
    (λ c. search choices)
    (λ c. search rules)
    (λ c. search rules)
    (λ c. search choices)
    (λ c. search choices)
    (λ c. search choices))
