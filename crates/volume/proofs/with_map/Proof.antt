use borrow.Author.Rules.{rules}
use Rattle.volume.specs.Inner.{through_map}
use Rattle.volume.proofs.Laws.{all}
use Rattle.volume.proofs.with_map.Statement.{statement}
use Rattle.volume.proofs.with_map.Tie as tie

pub with_map_spec : {M : Type 1} → statement M
unfolding through_map
with_map_spec =
    tie.close
    (tie.spec
    (λ c κs. search rules)
    (λ c. search rules)
    (λ c κs. search rules)
    (λ c. search rules)
    (λ c. search all)
    (λ c. search all))
