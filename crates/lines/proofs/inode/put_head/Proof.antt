use borrow.Author.Rules.{rules}
use Rattle.lines.specs.Inner.{node_head}
use Rattle.lines.proofs.Laws.{all}
use Rattle.lines.proofs.inode.put_head.Statement.{statement}
use Rattle.lines.proofs.inode.put_head.Tie as tie

pub put_head_spec : {M : Type 1} → statement M
unfolding node_head
put_head_spec =
    tie.close
    (tie.spec
    (λ c κs. search rules)
    (λ c κs. search rules)
    (λ c κs. search rules)
    (λ c κs. search rules)
    (λ c. search rules)
    (λ c. search all))
