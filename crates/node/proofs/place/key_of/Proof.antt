use borrow.Author.Rules.{rules}
use Rattle.node.proofs.Places.{holding}
use Rattle.node.proofs.place.key_of.Statement.{statement}
use Rattle.node.proofs.place.key_of.Tie as tie

pub key-of-spec : {M : Type 1} → statement M
key-of-spec =
    tie.close
    (tie.spec
    (λ c κs. search rules)
    (λ c κs. search rules)
    (λ c. search holding))
