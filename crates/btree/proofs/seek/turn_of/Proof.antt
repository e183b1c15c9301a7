use borrow.Author.Rules.{rules}
use Rattle.btree.proofs.Turns.{turn_no}
use Rattle.btree.proofs.seek.turn_of.Statement.{statement}
use Rattle.btree.proofs.seek.turn_of.Tie as tie

pub turn_of_spec : {M : Type 1} → statement M
turn_of_spec =
    tie.close
    (tie.spec
    (λ c. search rules)
    (λ c. search rules)
    (λ c. cc)
    (λ c. search (rules, turn_no)))
