use borrow.Author.Rules.{rules}
use Rattle.calls.proofs.Counts.{sums}
use Rattle.calls.proofs.plus.Statement.{statement}
use Rattle.calls.proofs.plus.Tie as tie

pub plus_spec : {M : Type 1} → statement M
plus_spec =
    tie.close
    (tie.spec
    (λ c. search rules)
    (λ c. search sums)
    (λ c. search rules)
    (λ c. search sums))
