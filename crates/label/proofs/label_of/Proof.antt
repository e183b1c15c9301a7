use borrow.Author.Rules.{rules}
use Rattle.label.specs.Label.{label_of}
use Rattle.label.proofs.Laws.{all}
use Rattle.label.proofs.label_of.Statement.{statement}
use Rattle.label.proofs.label_of.Tie as tie

pub label_of_spec : {M : Type 1} → statement M
unfolding label_of
label_of_spec =
    tie.close
    (tie.spec
    (λ c κs. search rules)
    (λ c κs. search rules)
    (λ c κs. search rules)
    (λ c. search all))
