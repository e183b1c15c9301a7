use borrow.Author.Rules.{rules}
use Rattle.listing.proofs.Whole.{all}
use Rattle.listing.proofs.list.refuse_zeroed.Statement.{statement}
use Rattle.listing.proofs.list.refuse_zeroed.Tie as tie

pub refuse_zeroed_spec : {M : Type 1} → statement M
refuse_zeroed_spec =
    tie.close
    (tie.spec
    (λ c κs. search rules)
    (λ c. search rules)
    (λ c. search all))
