use borrow.Author.Rules.{rules}
use Rattle.volume.specs.Open.{volume_open}
use Rattle.volume.proofs.Laws.{all}
use Rattle.volume.proofs.open_volume.Statement.{statement}
use Rattle.volume.proofs.open_volume.Tie as tie

pub open_volume_spec : {M : Type 1} → statement M
unfolding volume_open
open_volume_spec =
    tie.close
    (tie.spec
    (λ c κs. search rules)
    (λ c. search rules)
    (λ c κs. search rules)
    (λ c. search rules)
    (λ c. search all)
    (λ c. search all))
