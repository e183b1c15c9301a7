use Rattle.geometry.specs.BlockZero.{ring_of}
use Rattle.geometry.proofs.Laws.{all}
use Rattle.geometry.proofs.ring_of.Statement.{statement}
use Rattle.geometry.proofs.ring_of.Tie as tie

pub ring_of_spec : {M : Type 1} → statement M
unfolding ring_of
ring_of_spec =
    tie.close
    (tie.spec
    (λ c. search all)
    (λ c. search all))
