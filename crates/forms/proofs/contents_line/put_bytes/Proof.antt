use borrow.Author.Rules.{rules}
use Rattle.forms.proofs.Lines.{file_line}
use Rattle.forms.proofs.contents_line.put_bytes.Statement.{statement}
use Rattle.forms.proofs.contents_line.put_bytes.Tie as tie

pub put_bytes_spec : {M : Type 1} → statement M
put_bytes_spec =
    tie.close
    (tie.spec
    (λ c κs. search rules)
    (λ c κs. search rules)
    (λ c κs. search rules)
    (λ c κs. search rules)
    (λ c. search rules)
    (λ c. search (rules, file_line)))
