use borrow.Author.Rules.{rules}
use Rattle.lines.proofs.Laws.{all}
use Rattle.lines.proofs.inode.put_stream.Statement.{statement}
use Rattle.lines.proofs.inode.put_stream.Tie as tie

pub put_stream_spec : {M : Type 1} → statement M
put_stream_spec =
    tie.close
    (tie.spec
    (λ c. search rules)
    (λ c κs. search rules)
    (λ c. search rules)
    (λ c κs. search rules)
    (λ c. search rules)
    (λ c. search all)
    (λ c. search rules)
    (λ c. search all))
