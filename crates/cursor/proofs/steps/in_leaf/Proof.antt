use Rattle.cursor.proofs.Left.{reached}
use borrow.Author.Rules.{rules}
use Rattle.cursor.proofs.steps.in_leaf.Statement.{statement}
use Rattle.cursor.proofs.steps.in_leaf.Tie as tie

pub in_leaf_spec : {M : Type 1} → statement M
in_leaf_spec =
    tie.close
    (tie.spec
    (λ c. search rules)
    (λ c κs. search rules)
    (λ c. search rules)
    (λ c. search rules)
    (λ c. search reached)
    (λ c. search reached)
    (λ c. search reached))
