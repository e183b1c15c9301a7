use borrow.Author.Rules.{rules}
use Rattle.lines.specs.Lines.{entry_line}
use Rattle.lines.specs.Shown.{entry_shown}
use Rattle.lines.proofs.Laws.{all}
use Rattle.lines.proofs.line.put_entry_line.Statement.{statement}
use Rattle.lines.proofs.line.put_entry_line.Tie as tie

pub put_entry_line_spec : {M : Type 1} → statement M
unfolding entry_line entry_shown
put_entry_line_spec =
    tie.close
    (tie.spec
    (λ c κs. search rules)
    (λ c. search rules)
    (λ c κs. search rules)
    (λ c κs. search rules)
    (λ c κs. search rules)
    (λ c κs. search rules)
    (λ c. search rules)
    (λ c. search all))
