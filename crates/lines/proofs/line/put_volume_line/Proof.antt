use borrow.Author.Rules.{rules}
use Rattle.lines.specs.Lines.{volume_line}
use Rattle.lines.proofs.Laws.{all}
use Rattle.lines.proofs.line.put_volume_line.Statement.{statement}
use Rattle.lines.proofs.line.put_volume_line.Tie as tie

pub put_volume_line_spec : {M : Type 1} → statement M
unfolding volume_line
put_volume_line_spec =
    tie.close
    (tie.spec
    (λ c κs. search rules)
    (λ c κs. search rules)
    (λ c κs. search rules)
    (λ c κs. search rules)
    (λ c. search rules)
    (λ c. search all))
