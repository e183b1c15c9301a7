-- `made::written_on` meets its contract.
use Rattle.std.proofs.Common.{◌≡◌, ◌-◌, ◌≤◌, length, rules}
use Rattle.cases.proofs.made.written_on.Statement.{statement}
use Rattle.cases.proofs.made.written_on.Tie as tie

abbrev invariant-loop : tie.invariant-loop-i
invariant-loop out₀ x₀ i₀ out x i = (i ≤ length out₀) × (length out ≡ length out₀)

abbrev decreases-loop : tie.decreases-loop-i
decreases-loop out₀ x₀ i₀ out x i = length out₀ - i

pub written_on_spec : {M : Type 1} → statement M
written_on_spec =
    tie.close
    (tie.spec
    invariant-loop
    decreases-loop
    (λ c. search rules)
    (λ c. search rules)
    (λ c κs. search rules)
    (λ c. search rules)
    (λ c. search rules)
    (λ c. search rules)
    (λ c. search rules)
    (λ c. search rules))
