use borrow.Author.Rules.{rules}
use Rattle.lines.specs.Inner.{attribute_head}
use Rattle.lines.proofs.Laws.{all}
use Rattle.lines.proofs.attribute.put_attribute_head.Statement.{statement}
use Rattle.lines.proofs.attribute.put_attribute_head.Tie as tie

pub put_attribute_head_spec : {M : Type 1} → statement M
unfolding attribute_head
put_attribute_head_spec =
    tie.close
    (tie.spec
    (λ c κs. search rules)
    (λ c. search rules)
    (λ c κs. search rules)
    (λ c κs. search rules)
    (λ c κs. search rules)
    (λ c κs. search rules)
    (λ c. search rules)
    (λ c. search all))
