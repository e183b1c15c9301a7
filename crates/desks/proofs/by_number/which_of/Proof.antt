use borrow.Author.Rules.{rules}
use Rattle.desks.proofs.Numbered.{rows}
use Rattle.desks.proofs.by_number.which_of.Statement.{statement}
use Rattle.desks.proofs.by_number.which_of.Tie as tie

pub which_of_spec : {M : Type 1} → statement M
which_of_spec =
    tie.close
    (tie.spec
    (λ c. search rows)
    (λ c. search rows))
