use Rattle.btree.proofs.Higher.{staying}
use borrow.Author.Rules.{rules}
use Rattle.btree.proofs.seek.stays.Statement.{statement}
use Rattle.btree.proofs.seek.stays.Tie as tie

pub stays_spec : {M : Type 1} → statement M
stays_spec =
    tie.close
    (tie.spec
    (λ c. search staying)
    (λ c κs. search rules)
    (λ c κs. search rules)
    (λ c. search rules)
    (λ c. search rules)
    (λ c. search rules)
    (λ c. search rules)
    (λ c. search rules)
    (λ c. search staying)
    (λ c. search staying)
    (λ c. search staying)
    (λ c. search staying))
