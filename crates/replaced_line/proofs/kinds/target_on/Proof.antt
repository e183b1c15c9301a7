use borrow.Author.Rules.{rules}
use Rattle.replaced_line.proofs.ByKind.{kinds}
use Rattle.replaced_line.proofs.kinds.target_on.Statement.{statement}
use Rattle.replaced_line.proofs.kinds.target_on.Tie as tie

pub target_on_spec : {M : Type 1} → statement M
target_on_spec =
    tie.close
    (tie.spec
    (λ c κs. search rules)
    (λ c. search rules)
    (λ c κs. search rules)
    (λ c. search rules)
    (λ c. search rules)
    (λ c. search kinds)
    (λ c. search kinds))
