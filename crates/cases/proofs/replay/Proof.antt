-- `replay` meets its contract.
use Rattle.std.proofs.Common.{◌≡◌, ◌-◌, ◌≤◌, length, rules}
use Rattle.cases.proofs.replay.Statement.{statement}
use Rattle.cases.proofs.replay.Tie as tie

abbrev invariant-loop : tie.invariant-loop-k
invariant-loop input₀ image₀ out₀ kinds₀ tally₀ k₀ input image out kinds tally k = (k ≤ 1000000) × (length input ≡ length input₀) × (length image ≡ length image₀) × (length out ≡ length out₀)

abbrev decreases-loop : tie.decreases-loop-k
decreases-loop input₀ image₀ out₀ kinds₀ tally₀ k₀ input image out kinds tally k = 1000000 - k

pub replay_spec : {M : Type 1} → statement M
replay_spec =
    tie.close
    (tie.spec
    invariant-loop
    decreases-loop
    (λ c. search rules)
    (λ c κs. search rules)
    (λ c κs. search rules)
    (λ c. search rules)
    (λ c. search rules)
    (λ c. search rules)
    (λ c. search rules)
    (λ c κs. search rules)
    (λ c. search rules)
    (λ c. search rules)
    (λ c. search rules)
    (λ c. search rules)
    (λ c κs. search rules)
    (λ c κs. search rules)
    (λ c. search rules)
    (λ c. search rules)
    (λ c. search rules)
    (λ c. search rules)
    (λ c. search rules)
    (λ c. search rules)
    (λ c. search rules))
