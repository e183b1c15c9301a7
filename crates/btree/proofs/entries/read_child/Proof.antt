use borrow.Author.Rules.{rules}
use Rattle.btree.proofs.Laws.{all, child_node_lem}
use Rattle.btree.proofs.entries.read_child.Statement.{statement}
use Rattle.btree.proofs.entries.read_child.Tie as tie

pub read_child_spec : {M : Type 1} → statement M
read_child_spec =
    tie.close
    (tie.spec
    (λ c κs. search rules)
    (λ c. search rules)
    (λ c κs. search rules)
    (λ c. search rules)
    (λ c κs. search rules)
    (λ c. search rules)
    (λ c. search rules)
    (λ c. child_node_lem _ _ _ _ _ (search all))
    (λ c. child_node_lem _ _ _ _ _ (search all))
    (λ c. child_node_lem _ _ _ _ _ (search all)))
