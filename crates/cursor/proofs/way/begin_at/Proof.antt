use Rattle.cursor.proofs.Ways.{as_leaf_begun}
use borrow.Author.Rules.{rules}
use Rattle.cursor.proofs.way.begin_at.Statement.{statement}
use Rattle.cursor.proofs.way.begin_at.Tie as tie

pub begin_at_spec : {M : Type 1} → statement M
begin_at_spec =
    tie.close
    (tie.spec
    (λ c κs. search rules)
    (λ c. search (rules, as_leaf_begun))
    (λ c κs. search rules)
    (λ c. search rules))
