use borrow.Author.Rules.{rules}
use Rattle.checkpoints.proofs.Choosing.{blocks}
use Rattle.checkpoints.proofs.accepted.accepted_block.Statement.{statement}
use Rattle.checkpoints.proofs.accepted.accepted_block.Tie as tie

pub accepted_block_spec : {M : Type 1} → statement M
accepted_block_spec =
    tie.close
    (tie.spec
    (λ c κs. search rules)
    (λ c κs. search rules)
    (λ c. search blocks))
