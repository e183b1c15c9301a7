-- `made::minus` meets its contract: minus a byte fits an `i64`.
use Rattle.std.proofs.Common.{rules}
use Rattle.results.proofs.Results.{negated}
use Rattle.cases.proofs.made.minus.Statement.{statement}
use Rattle.cases.proofs.made.minus.Tie as tie

pub minus_spec : {M : Type 1} → statement M
minus_spec =
    tie.close
    (tie.spec
    (λ c. search rules)
    (λ c. search negated)
    (λ c. search rules))
