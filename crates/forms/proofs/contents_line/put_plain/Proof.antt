use borrow.Author.Rules.{rules}
use Rattle.forms.proofs.Lines.{all}
use Rattle.forms.proofs.contents_line.put_plain.Statement.{statement}
use Rattle.forms.proofs.contents_line.put_plain.Tie as tie

pub put_plain_spec : {M : Type 1} → statement M
put_plain_spec =
    tie.close
    (tie.spec
    (λ c κs. search rules)
    (λ c κs. search rules)
    (λ c κs. search rules)
    (λ c. search rules)
    (λ c. search all)
    (λ c. search rules)
    (λ c κs. search rules)
    (λ c. search rules)
    (λ c. search all))
