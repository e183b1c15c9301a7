use borrow.Author.Rules.{rules}
use Rattle.desks.proofs.Numbered.{rows}
use Rattle.desks.proofs.by_number.no_part.Statement.{statement}
use Rattle.desks.proofs.by_number.no_part.Tie as tie

pub no_part_spec : {M : Type 1} → statement M
no_part_spec =
    tie.close
    (tie.spec
    (λ c κs. search rules)
    (λ c. search rules)
    (λ c. search rows)
    (λ c. search rows))
