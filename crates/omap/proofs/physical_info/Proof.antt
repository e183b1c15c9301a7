use Rattle.omap.specs.Load.{physical}
use Rattle.omap.proofs.Laws.{all}
use Rattle.omap.proofs.physical_info.Statement.{statement}
use Rattle.omap.proofs.physical_info.Tie as tie

pub physical_info_spec : {M : Type 1} → statement M
unfolding physical
physical_info_spec =
    tie.close
    (tie.spec
    (λ c. search all)
    (λ c. search all)
    (λ c. search all)
    (λ c. search all))
