-- `replay::replay` meets its contract. Each record ends past its place, so less of the file is left.
use Prim.Native.Nat.{◌-◌, ◌≤◌}
use lib.ListN.{length}
use borrow.Author.Rules.{rules}
use native.Mathlib.Omega.{arith}
use Rattle.replay.proofs.replay.Statement.{statement}
use Rattle.replay.proofs.replay.Tie as tie

abbrev invariant-loop : tie.invariant-loop-at
invariant-loop file tally₀ number₀ at₀ tally number at = 0 ≤ at

abbrev decreases-loop : tie.decreases-loop-at
decreases-loop file tally₀ number₀ at₀ tally number at = length file - at

pub replay_spec : {M : Type 1} → statement M
replay_spec =
    tie.close
    (tie.spec
    invariant-loop
    decreases-loop
    (λ c. search rules)
    (λ c κs. search rules)
    (λ c. search rules)
    (λ c κs. search rules)
    (λ c κs. search rules)
    (λ c κs. search rules)
    (λ c. search rules)
    (λ c. omega arith)
    (λ c. search rules)
    (λ c. search rules)
    (λ c. search rules)
    (λ c. search rules)
    (λ c. search rules)
    (λ c. search rules))
