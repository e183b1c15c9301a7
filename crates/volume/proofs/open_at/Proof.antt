use borrow.Author.Rules.{rules}
use Rattle.volume.specs.Open.{volume_of_image}
use Rattle.volume.proofs.Laws.{all}
use Rattle.volume.proofs.open_at.Statement.{statement}
use Rattle.volume.proofs.open_at.Tie as tie

pub open_at_spec : {M : Type 1} → statement M
unfolding volume_of_image
open_at_spec =
    tie.close
    (tie.spec
    (λ c κs. search rules)
    (λ c. search rules)
    (λ c κs. search rules)
    (λ c. search rules)
    (λ c. search all)
    (λ c. search all))
