-- `made::agrees` meets its contract: the buffer is as long as it was recorded.
use Rattle.std.proofs.Common.{sym, arith, length-take-le, rules}
use Rattle.cases.proofs.made.agrees.Statement.{statement}
use Rattle.cases.proofs.made.agrees.Tie as tie

pub agrees_spec : {M : Type 1} → statement M
agrees_spec =
    tie.close
    (tie.spec
    (λ c. search rules)
    (λ c. search rules)
    (λ c. search rules)
    (λ c. search rules)
    (λ c. sym (length-take-le _ _ (omega arith)))
    (λ c κs. search rules)
    (λ c. search rules)
    (λ c. search rules))
