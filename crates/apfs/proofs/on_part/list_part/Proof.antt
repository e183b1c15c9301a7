use borrow.Author.Rules.{rules}
use Rattle.demand.specs.Demand.{listing_of}
use Rattle.results.proofs.Listings.{listed}
use Rattle.apfs.proofs.on_part.list_part.Statement.{statement}
use Rattle.apfs.proofs.on_part.list_part.Tie as tie

pub list_part_spec : {M : Type 1} → statement M
unfolding listing_of
list_part_spec =
    tie.close
    (tie.spec
    (λ c κs. search rules)
    (λ c. search rules)
    (λ c κs. search rules)
    (λ c κs. search rules)
    (λ c κs. search listed)
    (λ c. search rules)
    (λ c κs. search rules)
    (λ c κs. search listed)
    (λ c. search rules)
    (λ c. rw (← c.part_of_image.ensures, c.in-Ok.is, ← c.part.ensures) (search listed))
    (λ c. search rules)
    (λ c. rw (← c.part_of_image.ensures, c.in-Err.is) (search listed)))
