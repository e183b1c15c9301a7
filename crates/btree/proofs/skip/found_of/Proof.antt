use borrow.Author.Rules.{rules}
use Rattle.btree.proofs.Nth.{found_no}
use Rattle.btree.proofs.skip.found_of.Statement.{statement}
use Rattle.btree.proofs.skip.found_of.Tie as tie

pub found_of_spec : {M : Type 1} → statement M
found_of_spec =
    tie.close
    (tie.spec
    (λ c. search rules)
    (λ c. search rules)
    (λ c. search rules)
    (λ c. search rules)
    (λ c. cc)
    (λ c. search rules)
    (λ c. search rules)
    (λ c. search (rules, found_no)))
