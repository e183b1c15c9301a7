use Rattle.entry_lines.proofs.Fitting.{passes, next_direct}
use borrow.Author.Rules.{rules}
use Rattle.entry_lines.proofs.put_next.Statement.{statement}
use Rattle.entry_lines.proofs.put_next.Tie as tie

pub put_next_spec : {M : Type 1} → statement M
put_next_spec =
    tie.close
    (tie.spec
    (λ c. search passes)
    (λ c. search rules)
    (λ c κs. search rules)
    (λ c. search rules)
    (λ c. search rules)
    (λ c κs. search rules)
    (λ c. search rules)
    (λ c. next_direct _ _ _ c.args.e _ _ _ _ c.put_entry_line.result _ (search rules) (search rules) (search rules) (search rules) c.requires (search rules) c.entry_name.ensures (search rules) c.put_entry_line.ensures)
    (λ c. search rules)
    (λ c. search rules)
    (λ c κs. search rules)
    (λ c. search rules)
    (λ c. search rules)
    (λ c κs. search rules)
    (λ c. search rules)
    (λ c. search passes)
    (λ c. search rules)
    (λ c. search passes))
