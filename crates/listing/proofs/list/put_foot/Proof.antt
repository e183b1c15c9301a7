use borrow.Author.Rules.{rules}
use Rattle.listing.proofs.Whole.{all}
use Rattle.listing.proofs.list.put_foot.Statement.{statement}
use Rattle.listing.proofs.list.put_foot.Tie as tie

pub put_foot_spec : {M : Type 1} → statement M
put_foot_spec =
    tie.close
    (tie.spec
    (λ c κs. search all)
    (λ c κs. search all)
    (λ c. search all)
    (λ c. search all))
