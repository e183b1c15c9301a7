use borrow.Author.Rules.{rules}
use Prim.Native.Nat.{◌-◌, ◌+◌, ◌*◌, ◌^◌, ◌<◌}
use mathlib.Core.Path.{◌≡◌}
use Rattle.checkpoints.specs.Numbers.{numbered_in}
use Rattle.checkpoints.proofs.NumberTurns.{numbered}
use Rattle.checkpoints.proofs.by_number.numbered_checkpoint.Statement.{statement}
use Rattle.checkpoints.proofs.by_number.numbered_checkpoint.Tie as tie

abbrev invariant-loop : tie.invariant-loop-i
invariant-loop reader image start ring xid i₀ i = (start + ring * reader.block_size < 2 ^ 64) × (numbered_in reader image start ring xid (ring - i) i ≡ numbered_in reader image start ring xid ring 0)

abbrev decreases-loop : tie.decreases-loop-i
decreases-loop reader image start ring xid i₀ i = ring - i

pub numbered_checkpoint_spec : {M : Type 1} → statement M
numbered_checkpoint_spec =
    tie.close
    (tie.spec
    invariant-loop
    decreases-loop
    (λ c. search numbered)
    (λ c κs. search numbered)
    (λ c κs. search numbered)
    (λ c. search numbered)
    (λ c. search numbered)
    (λ c. search numbered)
    (λ c. search numbered)
    (λ c. search numbered)
    (λ c. search numbered)
    (λ c. search numbered))
