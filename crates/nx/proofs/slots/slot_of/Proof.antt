use borrow.Author.Rules.{rules}
use Rattle.nx.specs.Slots.{slot_of}
use Rattle.nx.proofs.SlotTurns.{slot_in_part}
use Rattle.nx.proofs.slots.slot_of.Statement.{statement}
use Rattle.nx.proofs.slots.slot_of.Tie as tie

pub slot_of_spec : {M : Type 1} → statement M
unfolding slot_of
slot_of_spec =
    tie.close
    (tie.spec
    (λ c κs. search rules)
    (λ c κs. search rules)
    (λ c. search (rules, slot_in_part)))
