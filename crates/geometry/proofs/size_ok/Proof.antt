use Rattle.geometry.specs.BlockZero.{size_ok}
use Rattle.geometry.proofs.Laws.{all}
use Rattle.geometry.proofs.size_ok.Statement.{statement}
use Rattle.geometry.proofs.size_ok.Tie as tie

pub size_ok_spec : {M : Type 1} → statement M
unfolding size_ok
size_ok_spec =
    tie.close
    (tie.spec
    (λ c. search all)
    (λ c. search all)
    (λ c. search all)
    (λ c. search all))
