use borrow.Author.Rules.{rules}
use Rattle.entry_lines.proofs.Steps.{firsts}
use Rattle.entry_lines.proofs.entries_from.Statement.{statement}
use Rattle.entry_lines.proofs.entries_from.Tie as tie

pub entries_from_spec : {M : Type 1} → statement M
entries_from_spec =
    tie.close
    (tie.spec
    (λ c. search rules)
    (λ c. search rules)
    (λ c κs. search rules)
    (λ c. search rules)
    (λ c. search rules)
    (λ c κs. search rules)
    (λ c. search rules)
    (λ c. search firsts)
    (λ c. search rules)
    (λ c. search firsts))
