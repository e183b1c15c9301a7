use Rattle.cursor.proofs.Left.{after_some}
use Rattle.cursor.proofs.Ways.{leaf_begun}
use borrow.Author.Rules.{rules}
use Rattle.cursor.proofs.way.begin_leaf.Statement.{statement}
use Rattle.cursor.proofs.way.begin_leaf.Tie as tie

pub begin_leaf_spec : {M : Type 1} → statement M
begin_leaf_spec =
    tie.close
    (tie.spec
    (λ c κs. search rules)
    (λ c. search rules)
    (λ c. search (rules, after_some))
    (λ c κs. search rules)
    (λ c. search rules)
    (λ c κs. search rules)
    (λ c. search rules)
    (λ c κs. search rules)
    (λ c. search rules)
    (λ c κs. search rules)
    (λ c. search leaf_begun)
    (λ c. search leaf_begun)
    (λ c. search leaf_begun)
    (λ c. search leaf_begun))
