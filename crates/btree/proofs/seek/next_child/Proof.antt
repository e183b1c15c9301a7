use Rattle.btree.proofs.Reaching.{reaching, sought_low}
use borrow.Author.Rules.{rules}
use Rattle.btree.proofs.seek.next_child.Statement.{statement}
use Rattle.btree.proofs.seek.next_child.Tie as tie

pub next_child_spec : {M : Type 1} → statement M
next_child_spec =
    tie.close
    (tie.spec
    (λ c κs. search rules)
    (λ c. search rules)
    (λ c κs. search rules)
    (λ c. search rules)
    (λ c κs. search rules)
    (λ c. search rules)
    (λ c κs. search rules)
    (λ c. search rules)
    (λ c κs. search rules)
    (λ c κs. search (rules, sought_low))
    (λ c. search reaching)
    (λ c. search reaching)
    (λ c. search reaching)
    (λ c. search reaching))
