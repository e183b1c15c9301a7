use borrow.Author.Rules.{rules}
use Rattle.nx.proofs.SlotTurns.{slots}
use Rattle.nx.proofs.slots.slot_at.Statement.{statement}
use Rattle.nx.proofs.slots.slot_at.Tie as tie

pub slot_at_spec : {M : Type 1} → statement M
slot_at_spec =
    tie.close
    (tie.spec
    (λ c. search rules)
    (λ c. search rules)
    (λ c κs. search rules)
    (λ c. search rules)
    (λ c. search rules)
    (λ c. search slots)
    (λ c. search slots))
