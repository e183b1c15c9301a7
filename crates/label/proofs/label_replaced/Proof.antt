use borrow.Author.Rules.{rules}
use Rattle.label.specs.Label.{label_reading}
use Rattle.label.proofs.Laws.{all}
use Rattle.label.proofs.label_replaced.Statement.{statement}
use Rattle.label.proofs.label_replaced.Tie as tie

pub label_replaced_spec : {M : Type 1} → statement M
unfolding label_reading
label_replaced_spec =
    tie.close
    (tie.spec
    (λ c κs. search rules)
    (λ c κs. search rules)
    (λ c. search all))
