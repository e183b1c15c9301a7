use Rattle.btree.proofs.Seeking.{seeking}
use borrow.Author.Rules.{rules}
use Rattle.btree.proofs.seek.seek_in.Statement.{statement}
use Rattle.btree.proofs.seek.seek_in.Tie as tie

pub seek_in_spec : {M : Type 1} → statement M
seek_in_spec =
    tie.close
    (tie.spec
    (λ c. search seeking)
    (λ c κs. search rules)
    (λ c. search rules)
    (λ c. search rules)
    (λ c κs. search rules)
    (λ c. search rules)
    (λ c κs. search rules)
    (λ c. search rules)
    (λ c. search rules)
    (λ c. search seeking)
    (λ c. search seeking)
    (λ c. search seeking)
    (λ c. search seeking))
