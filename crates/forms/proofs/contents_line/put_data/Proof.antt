use borrow.Author.Rules.{rules}
use Rattle.forms.proofs.Lines.{all}
use Rattle.forms.proofs.contents_line.put_data.Statement.{statement}
use Rattle.forms.proofs.contents_line.put_data.Tie as tie

pub put_data_spec : {M : Type 1} → statement M
put_data_spec =
    tie.close
    (tie.spec
    (λ c. search rules)
    (λ c. search all)
    (λ c. search rules)
    (λ c κs. search rules)
    (λ c. search rules)
    (λ c. search all)
    (λ c κs. search rules)
    (λ c. search rules)
    (λ c. search all))
