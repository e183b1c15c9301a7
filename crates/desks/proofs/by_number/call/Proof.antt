use borrow.Author.Rules.{rules}
use Rattle.desks.proofs.Numbered.{rows}
use Rattle.desks.proofs.by_number.call.Statement.{statement}
use Rattle.desks.proofs.by_number.call.Tie as tie

pub call_spec : {M : Type 1} → statement M
call_spec =
    tie.close
    (tie.spec
    (λ c κs. search rules)
    (λ c κs. search rows)
    (λ c. search rules)
    (λ c. search rows))
