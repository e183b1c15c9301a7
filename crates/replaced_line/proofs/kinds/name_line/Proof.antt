use borrow.Author.Rules.{rules}
use Rattle.replaced_line.proofs.ByKind.{kinds}
use Rattle.replaced_line.proofs.kinds.name_line.Statement.{statement}
use Rattle.replaced_line.proofs.kinds.name_line.Tie as tie

pub name_line_spec : {M : Type 1} → statement M
name_line_spec =
    tie.close
    (tie.spec
    (λ c. search rules)
    (λ c. search rules)
    (λ c κs. search rules)
    (λ c. search kinds)
    (λ c. search rules)
    (λ c. search kinds))
