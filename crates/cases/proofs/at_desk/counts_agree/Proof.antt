use Rattle.std.proofs.Common.{◌-◌, ◌≤◌, rules}
use Rattle.cases.proofs.at_desk.counts_agree.Statement.{statement}
use Rattle.cases.proofs.at_desk.counts_agree.Tie as tie

abbrev invariant-loop : tie.invariant-loop-i
invariant-loop input counts i₀ i = i ≤ 8

abbrev decreases-loop : tie.decreases-loop-i
decreases-loop input counts i₀ i = 8 - i

pub counts_agree_spec : {M : Type 1} → statement M
counts_agree_spec =
    tie.close
    (tie.spec
    invariant-loop
    decreases-loop
    (λ c. search rules)
    (λ c. search rules)
    (λ c. search rules)
    (λ c. search rules)
    (λ c. search rules)
    (λ c κs. search rules)
    (λ c. search rules)
    (λ c. search rules)
    (λ c. search rules)
    (λ c. search rules)
    (λ c. search rules))
