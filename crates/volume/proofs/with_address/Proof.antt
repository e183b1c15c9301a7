use borrow.Author.Rules.{rules}
use Rattle.volume.specs.Inner.{tree_of}
use Rattle.volume.proofs.Laws.{all}
use Rattle.volume.proofs.with_address.Statement.{statement}
use Rattle.volume.proofs.with_address.Tie as tie

pub with_address_spec : {M : Type 1} → statement M
unfolding tree_of
with_address_spec =
    tie.close
    (tie.spec
    (λ c κs. search rules)
    (λ c. search rules)
    (λ c κs. search rules)
    (λ c κs. search rules)
    (λ c. search rules)
    (λ c. search all)
    (λ c. search all))
