use borrow.Author.Rules.{rules}
use Rattle.calls.proofs.Filling.{filled_short, filled_written}
use Rattle.element_lines.proofs.entry.show_entry.Statement.{statement}
use Rattle.element_lines.proofs.entry.show_entry.Tie as tie

pub show_entry_spec : {M : Type 1} → statement M
show_entry_spec =
    tie.close
    (tie.spec
    (λ c. search rules)
    (λ c. search rules)
    (λ c κs. search rules)
    (λ c. search rules)
    (λ c. search rules)
    (λ c κs. search rules)
    (λ c. search rules)
    (λ c. filled_short _ _ c.put_entry_line.new.out _ c.put_entry_line.auto.out c.put_entry_line.ensures _ c.in-Err.is)
    (λ c. search rules)
    (λ c. filled_written _ _ c.put_entry_line.new.out _ c.put_entry_line.auto.out c.put_entry_line.ensures _ c.put_entry_line-in-Ok.result c.put_entry_line-in-Ok.new.out c.in-Ok.is c.put_entry_line-in-Ok.ensures))
