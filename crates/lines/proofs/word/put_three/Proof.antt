use borrow.Author.Rules.{rules}
use Rattle.lines.proofs.Laws.{all}
use Rattle.lines.proofs.word.put_three.Statement.{statement}
use Rattle.lines.proofs.word.put_three.Tie as tie

pub put_three_spec : {M : Type 1} → statement M
put_three_spec =
    tie.close
    (tie.spec
    (λ c κs. search rules)
    (λ c κs. search rules)
    (λ c κs. search rules)
    (λ c. search rules)
    (λ c. search all))
