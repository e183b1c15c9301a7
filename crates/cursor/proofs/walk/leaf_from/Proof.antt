use native.Mathlib.Omega.{arith}
use Rattle.cursor.proofs.Left.{leafs, after_some}
use borrow.Author.Rules.{rules}
use Rattle.cursor.proofs.walk.leaf_from.Statement.{statement}
use Rattle.cursor.proofs.walk.leaf_from.Tie as tie

pub leaf_from_spec : {M : Type 1} → statement M
leaf_from_spec =
    tie.close
    (tie.spec
    (λ c κs. search rules)
    (λ c. search rules)
    (λ c. omega (arith, after_some _ c.args.q _ _ _ _ _ c.next_in.ensures c.in-At.is))
    (λ c κs. search rules)
    (λ c. search rules)
    (λ c κs. search rules)
    (λ c. search rules)
    (λ c κs. search rules)
    (λ c. search rules)
    (λ c κs. search rules)
    (λ c. search leafs)
    (λ c. search leafs)
    (λ c. search leafs)
    (λ c. search leafs))
