use borrow.Author.Rules.{rules}
use Rattle.entry_lines.specs.Entries.{entries_counted}
use Rattle.entry_lines.proofs.Steps.{onward}
use Rattle.entry_lines.proofs.entries_text.Statement.{statement}
use Rattle.entry_lines.proofs.entries_text.Tie as tie

pub entries_text_spec : {M : Type 1} → statement M
unfolding entries_counted
entries_text_spec =
    tie.close
    (tie.spec
    (λ c κs. search rules)
    (λ c. search rules)
    (λ c κs. search rules)
    (λ c. search rules)
    (λ c. search rules)
    (λ c. search onward)
    (λ c. search onward))
