-- `agreement::print_kinds` meets its contract.
use Rattle.std.proofs.Common.{◌-◌, ◌≤◌, rules}
use Rattle.cases.proofs.agreement.print_kinds.Statement.{statement}
use Rattle.cases.proofs.agreement.print_kinds.Tie as tie

abbrev invariant-loop : tie.invariant-loop-k
invariant-loop kinds k₀ k = k ≤ 418

abbrev decreases-loop : tie.decreases-loop-k
decreases-loop kinds k₀ k = 418 - k

pub print_kinds_spec : {M : Type 1} → statement M
print_kinds_spec =
    tie.close
    (tie.spec
    invariant-loop
    decreases-loop
    (λ c. search rules)
    (λ c. search rules)
    (λ c. search rules)
    (λ c κs. search rules)
    (λ c. search rules)
    (λ c κs. search rules)
    (λ c. search rules)
    (λ c. search rules)
    (λ c. search rules)
    (λ c. search rules)
    (λ c. search rules))
