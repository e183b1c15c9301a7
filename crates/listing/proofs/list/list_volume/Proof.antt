use borrow.Author.Rules.{rules}
use Rattle.demand.specs.Listing.{listing}
use Rattle.listing.proofs.Whole.{all}
use Rattle.listing.proofs.list.list_volume.Statement.{statement}
use Rattle.listing.proofs.list.list_volume.Tie as tie

pub list_volume_spec : {M : Type 1} → statement M
unfolding listing
list_volume_spec =
    tie.close
    (tie.spec
    (λ c κs. search rules)
    (λ c. search rules)
    (λ c. search rules)
    (λ c κs. search rules)
    (λ c. search rules)
    (λ c. search all)
    (λ c. search rules)
    (λ c. search all))
