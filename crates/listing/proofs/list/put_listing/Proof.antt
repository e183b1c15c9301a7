use borrow.Author.Rules.{rules}
use Rattle.listing.proofs.Whole.{all}
use Rattle.listing.proofs.list.put_listing.Statement.{statement}
use Rattle.listing.proofs.list.put_listing.Tie as tie

pub put-listing-spec : {M : Type 1} → statement M
put-listing-spec =
    tie.close
    (tie.spec
    (λ c κs. search all)
    (λ c κs. search all)
    (λ c. search all)
    (λ c. search all))
