use borrow.Author.Rules.{rules}
use Rattle.listing.proofs.Whole.{all}
use Rattle.listing.proofs.list.list_text.Statement.{statement}
use Rattle.listing.proofs.list.list_text.Tie as tie

pub list_text_spec : {M : Type 1} → statement M
list_text_spec =
    tie.close
    (tie.spec
    (λ c κs. search rules)
    (λ c. search rules)
    (λ c κs. search rules)
    (λ c. search rules)
    (λ c κs. search rules)
    (λ c. search rules)
    (λ c. search all)
    (λ c. search rules)
    (λ c. search all))
