use Rattle.cursor.proofs.Left.{after_some}
use Rattle.cursor.proofs.Ways.{records}
use borrow.Author.Rules.{rules}
use Rattle.cursor.proofs.way.record_from.Statement.{statement}
use Rattle.cursor.proofs.way.record_from.Tie as tie

pub record_from_spec : {M : Type 1} → statement M
record_from_spec =
    tie.close
    (tie.spec
    (λ c κs. search rules)
    (λ c. search rules)
    (λ c. search (rules, after_some))
    (λ c. search rules)
    (λ c. search rules)
    (λ c. search rules)
    (λ c. search records)
    (λ c. search records)
    (λ c. search records)
    (λ c. search records))
