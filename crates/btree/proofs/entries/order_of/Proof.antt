use borrow.Author.Rules.{rules}
use Rattle.btree.specs.Entries.{order_of}
use Rattle.btree.proofs.Laws.{all}
use Rattle.btree.proofs.entries.order_of.Statement.{statement}
use Rattle.btree.proofs.entries.order_of.Tie as tie

pub order_of_spec : {M : Type 1} → statement M
unfolding order_of
order_of_spec =
    tie.close
    (tie.spec
    (λ c. search all)
    (λ c. search all)
    (λ c. search all)
    (λ c. search all)
    (λ c. search all))
