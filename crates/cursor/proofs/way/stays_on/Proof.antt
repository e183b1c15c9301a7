use Prim.Native.Nat.{◌-◌}
use mathlib.Core.Path.{◌≡◌}
use Rattle.cursor.specs.Way.{stays_on}
use Rattle.cursor.proofs.Ways.{levelling}
use Rattle.cursor.proofs.way.stays_on.Statement.{statement}
use Rattle.cursor.proofs.way.stays_on.Tie as tie

abbrev invariant-loop : tie.invariant-loop-l
invariant-loop image q c level top l₀ l = stays_on image q c l ≡ stays_on image q c level

abbrev decreases-loop : tie.decreases-loop-l
decreases-loop image q c level top l₀ l = top - l

pub stays_on_spec : {M : Type 1} → statement M
stays_on_spec =
    tie.close
    (tie.spec
    invariant-loop
    decreases-loop
    (λ c κs. search levelling)
    (λ c. search levelling)
    (λ c. search levelling)
    (λ c κs. search levelling)
    (λ c κs. search levelling)
    (λ c. search levelling)
    (λ c. search levelling)
    (λ c. search levelling)
    (λ c κs. search levelling)
    (λ c. search levelling)
    (λ c. search levelling)
    (λ c. search levelling)
    (λ c. search levelling))
