use borrow.Author.Rules.{rules}
use Rattle.checkpoints.proofs.Choosing.{blocks}
use Rattle.checkpoints.proofs.accepted.block_place.Statement.{statement}
use Rattle.checkpoints.proofs.accepted.block_place.Tie as tie

pub block_place_spec : {M : Type 1} → statement M
block_place_spec =
    tie.close
    (tie.spec
    (λ c. search rules)
    (λ c. search blocks)
    (λ c. search blocks)
    (λ c. search rules))
