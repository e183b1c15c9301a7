use borrow.Author.Rules.{rules}
use Rattle.forms.proofs.Lines.{all}
use Rattle.forms.proofs.attributes.put_attribute.Statement.{statement}
use Rattle.forms.proofs.attributes.put_attribute.Tie as tie

pub put_attribute_spec : {M : Type 1} → statement M
put_attribute_spec =
    tie.close
    (tie.spec
    (λ c. search rules)
    (λ c κs. search rules)
    (λ c. search rules)
    (λ c κs. search rules)
    (λ c. search rules)
    (λ c. search all)
    (λ c. search rules)
    (λ c. search all))
