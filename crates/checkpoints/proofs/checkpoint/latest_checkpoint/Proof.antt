use borrow.Author.Rules.{rules}
use Prim.Native.Nat.{◌+◌, ◌-◌, ◌*◌, ◌^◌, ◌≤◌, ◌<◌}
use mathlib.Core.Path.{◌≡◌}
use Rattle.checkpoints.specs.Checkpoint.{latest_in}
use Rattle.checkpoints.proofs.Choosing.{latest_start, latest_turn, latest_done}
use Rattle.checkpoints.proofs.checkpoint.latest_checkpoint.Statement.{statement}
use Rattle.checkpoints.proofs.checkpoint.latest_checkpoint.Tie as tie

ruleset turns = (rules, latest_start, latest_turn, latest_done)

abbrev invariant-loop : tie.invariant-loop-i
invariant-loop reader image start ring best₀ i₀ best i = (i ≤ ring) × (start + ring * reader.block_size < 2 ^ 64) × (best ≡ latest_in reader image start ring (ring - i) i)

abbrev decreases-loop : tie.decreases-loop-i
decreases-loop reader image start ring best₀ i₀ best i = i

pub latest_checkpoint_spec : {M : Type 1} → statement M
latest_checkpoint_spec =
    tie.close
    (tie.spec
    invariant-loop
    decreases-loop
    (λ c. search turns)
    (λ c. search turns)
    (λ c κs. search turns)
    (λ c κs. search turns)
    (λ c. search turns)
    (λ c. search turns)
    (λ c. search turns))
