-- `filled` meets its contract: the part that is read into is as long as the input.
use Rattle.std.proofs.Common.{sym, arith, length-take-le, rules}
use Rattle.cases.proofs.filled.Statement.{statement}
use Rattle.cases.proofs.filled.Tie as tie

pub filled_spec : {M : Type 1} → statement M
filled_spec =
    tie.close
    (tie.spec
    (λ c. search rules)
    (λ c. search rules)
    (λ c. sym (length-take-le _ _ (omega arith)))
    (λ c κs. search rules)
    (λ c. search rules)
    (λ c. search rules))
