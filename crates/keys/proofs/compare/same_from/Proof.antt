use borrow.Author.Rules.{rules}
use Rattle.keys.proofs.compare.same_from.Statement.{statement}
use Rattle.keys.proofs.compare.same_from.Tie as tie
use Rattle.unicode_forms.proofs.Same.{order_unlike, order_by}

ruleset turns = (rules, order_unlike, order_by)

pub same_from_spec : {M : Type 1} → statement M
same_from_spec =
    tie.close
    (tie.spec
    (λ c κs. search turns)
    (λ c. search turns)
    (λ c κs. search turns)
    (λ c. search turns))
