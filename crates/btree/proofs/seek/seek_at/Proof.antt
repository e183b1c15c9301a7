use Rattle.btree.proofs.Reaching.{seek_of}
use borrow.Author.Rules.{rules}
use Rattle.btree.proofs.seek.seek_at.Statement.{statement}
use Rattle.btree.proofs.seek.seek_at.Tie as tie

pub seek_at_spec : {M : Type 1} → statement M
seek_at_spec =
    tie.close
    (tie.spec
    (λ c κs. search rules)
    (λ c κs. search rules)
    (λ c. search (rules, seek_of)))
