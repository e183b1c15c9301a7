use borrow.Author.Rules.{rules}
use Rattle.btree.specs.Entries.{enter_at}
use Rattle.btree.proofs.Laws.{all, parts}
use Rattle.btree.proofs.entries.enter.Statement.{statement}
use Rattle.btree.proofs.entries.enter.Tie as tie

pub enter_spec : {M : Type 1} → statement M
unfolding enter_at
enter_spec =
    tie.close
    (tie.spec
    (λ c κs. search rules)
    (λ c κs. search rules)
    (λ c. search rules)
    (λ c κs. search rules)
    (λ c. search rules)
    (λ c. search (all, parts))
    (λ c. search (all, parts)))
