use borrow.Author.Rules.{rules}
use Rattle.btree.proofs.Laws.{record_there, record_missing}
use Rattle.btree.proofs.entries.record_of.Statement.{statement}
use Rattle.btree.proofs.entries.record_of.Tie as tie

pub record_of_spec : {M : Type 1} → statement M
record_of_spec =
    tie.close
    (tie.spec
    (λ c. search rules)
    (λ c κs. search rules)
    (λ c. search rules)
    (λ c. search (rules, record_there, record_missing))
    (λ c. search (rules, record_there, record_missing)))
