use borrow.Author.Rules.{rules}
use Rattle.calls.proofs.Filling.{filled_short, filled_written}
use Rattle.replaced_line.proofs.line.show.Statement.{statement}
use Rattle.replaced_line.proofs.line.show.Tie as tie

pub show_spec : {M : Type 1} → statement M
show_spec =
    tie.close
    (tie.spec
    (λ c. search rules)
    (λ c. search rules)
    (λ c κs. search rules)
    (λ c. search rules)
    (λ c. search rules)
    (λ c κs. search rules)
    (λ c. search rules)
    (λ c. filled_short _ _ c.put_line.new.out _ c.put_line.auto.out c.put_line.ensures _ c.in-Err.is)
    (λ c. search rules)
    (λ c.
    filled_written _ _ c.put_line.new.out _ c.put_line.auto.out c.put_line.ensures _
    c.put_line-in-Ok.result c.put_line-in-Ok.new.out c.in-Ok.is
    c.put_line-in-Ok.ensures))
