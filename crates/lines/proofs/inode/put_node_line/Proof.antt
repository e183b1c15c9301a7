use borrow.Author.Rules.{rules}
use Rattle.lines.proofs.Laws.{all}
use Rattle.lines.proofs.inode.put_node_line.Statement.{statement}
use Rattle.lines.proofs.inode.put_node_line.Tie as tie

pub put_node_line_spec : {M : Type 1} → statement M
put_node_line_spec =
    tie.close
    (tie.spec
    (λ c κs. search rules)
    (λ c κs. search rules)
    (λ c κs. search rules)
    (λ c κs. search rules)
    (λ c. search rules)
    (λ c. search all))
