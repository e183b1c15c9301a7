use borrow.Author.Rules.{rules}
use Rattle.lines.specs.Inner.{form_head}
use Rattle.lines.proofs.Laws.{all}
use Rattle.lines.proofs.attribute.put_form.Statement.{statement}
use Rattle.lines.proofs.attribute.put_form.Tie as tie

pub put_form_spec : {M : Type 1} → statement M
unfolding form_head
put_form_spec =
    tie.close
    (tie.spec
    (λ c. search rules)
    (λ c κs. search rules)
    (λ c. search rules)
    (λ c κs. search rules)
    (λ c κs. search rules)
    (λ c κs. search rules)
    (λ c. search rules)
    (λ c. search all)
    (λ c. search rules)
    (λ c. search all))
