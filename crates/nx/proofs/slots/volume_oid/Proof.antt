use Prim.Native.Nat.{◌-◌}
use mathlib.Core.Path.{◌≡◌}
use borrow.Author.Rules.{rules}
use Rattle.nx.specs.Slots.{slots_in, volumes_of, volume_at}
use Rattle.nx.proofs.SlotTurns.{slots}
use Rattle.nx.proofs.slots.volume_oid.Statement.{statement}
use Rattle.nx.proofs.slots.volume_oid.Tie as tie

abbrev invariant-loop : tie.invariant-loop-i
invariant-loop image sb index n left₀ i₀ left i = volume_at left (slots_in image sb (n - i) i) ≡ volume_at index (volumes_of image sb)

abbrev decreases-loop : tie.decreases-loop-i
decreases-loop image sb index n left₀ i₀ left i = n - i

pub volume_oid_spec : {M : Type 1} → statement M
volume_oid_spec =
    tie.close
    (tie.spec
    invariant-loop
    decreases-loop
    (λ c κs. search rules)
    (λ c. search slots)
    (λ c κs. search rules)
    (λ c. search slots)
    (λ c. search slots)
    (λ c. search slots)
    (λ c. search slots)
    (λ c. search slots)
    (λ c. search slots)
    (λ c. search slots)
    (λ c. search slots))
