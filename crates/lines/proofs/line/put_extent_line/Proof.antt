use borrow.Author.Rules.{rules}
use Rattle.lines.specs.Lines.{extent_line}
use Rattle.lines.proofs.Laws.{all}
use Rattle.lines.proofs.line.put_extent_line.Statement.{statement}
use Rattle.lines.proofs.line.put_extent_line.Tie as tie

pub put_extent_line_spec : {M : Type 1} → statement M
unfolding extent_line
put_extent_line_spec =
    tie.close
    (tie.spec
    (λ c κs. search rules)
    (λ c κs. search rules)
    (λ c κs. search rules)
    (λ c. search rules)
    (λ c. search all))
