use borrow.Author.Rules.{rules}
use Rattle.node.proofs.Places.{holding}
use Rattle.node.proofs.place.key_in.Statement.{statement}
use Rattle.node.proofs.place.key_in.Tie as tie

pub key_in_spec : {M : Type 1} → statement M
key_in_spec =
    tie.close
    (tie.spec
    (λ c κs. search rules)
    (λ c κs. search rules)
    (λ c. search holding))
