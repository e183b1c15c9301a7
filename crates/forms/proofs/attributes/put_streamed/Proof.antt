use borrow.Author.Rules.{rules}
use Rattle.forms.proofs.Lines.{all}
use Rattle.forms.proofs.attributes.put_streamed.Statement.{statement}
use Rattle.forms.proofs.attributes.put_streamed.Tie as tie

pub put_streamed_spec : {M : Type 1} → statement M
put_streamed_spec =
    tie.close
    (tie.spec
    (λ c κs. search rules)
    (λ c κs. search rules)
    (λ c κs. search rules)
    (λ c. search rules)
    (λ c. search all))
