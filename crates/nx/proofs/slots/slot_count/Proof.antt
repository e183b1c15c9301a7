use native.Mathlib.Omega.{arith}
use Rattle.nx.specs.Slots.{slot_count}
use Rattle.nx.proofs.slots.slot_count.Statement.{statement}
use Rattle.nx.proofs.slots.slot_count.Tie as tie

pub slot_count_spec : {M : Type 1} → statement M
unfolding slot_count
slot_count_spec =
    tie.close
    (tie.spec
    (λ c. omega arith)
    (λ c. omega arith))
