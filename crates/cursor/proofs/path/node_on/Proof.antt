use Rattle.cursor.proofs.Left.{on_root, on_block}
use borrow.Author.Rules.{rules}
use Rattle.cursor.proofs.path.node_on.Statement.{statement}
use Rattle.cursor.proofs.path.node_on.Tie as tie

pub node_on_spec : {M : Type 1} → statement M
node_on_spec =
    tie.close
    (tie.spec
    (λ c. search (rules, on_root, on_block))
    (λ c κs. search rules)
    (λ c κs. search rules)
    (λ c. search (rules, on_root, on_block)))
