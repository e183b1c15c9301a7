use borrow.Author.Rules.{rules}
use Rattle.lines.proofs.Laws.{all}
use Rattle.lines.proofs.attribute.put_attribute_embedded.Statement.{statement}
use Rattle.lines.proofs.attribute.put_attribute_embedded.Tie as tie

pub put_attribute_embedded_spec : {M : Type 1} → statement M
put_attribute_embedded_spec =
    tie.close
    (tie.spec
    (λ c κs. search rules)
    (λ c κs. search rules)
    (λ c κs. search rules)
    (λ c κs. search rules)
    (λ c. search rules)
    (λ c. search all))
