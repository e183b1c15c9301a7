use borrow.Author.Rules.{rules}
use Rattle.lines.specs.Lines.{total_line}
use Rattle.lines.proofs.Laws.{all}
use Rattle.lines.proofs.line.put_total_line.Statement.{statement}
use Rattle.lines.proofs.line.put_total_line.Tie as tie

pub put_total_line_spec : {M : Type 1} → statement M
unfolding total_line
put_total_line_spec =
    tie.close
    (tie.spec
    (λ c κs. search rules)
    (λ c κs. search rules)
    (λ c κs. search rules)
    (λ c. search rules)
    (λ c. search all))
