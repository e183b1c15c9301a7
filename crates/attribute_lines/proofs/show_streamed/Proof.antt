use borrow.Author.Rules.{rules}
use Rattle.calls.proofs.Filling.{filled_short, filled_written}
use Rattle.attribute_lines.proofs.show_streamed.Statement.{statement}
use Rattle.attribute_lines.proofs.show_streamed.Tie as tie

pub show_streamed_spec : {M : Type 1} → statement M
show_streamed_spec =
    tie.close
    (tie.spec
    (λ c. search rules)
    (λ c. search rules)
    (λ c κs. search rules)
    (λ c. search rules)
    (λ c. search rules)
    (λ c κs. search rules)
    (λ c. search rules)
    (λ c. filled_short _ _ c.put_streamed.new.out _ c.put_streamed.auto.out c.put_streamed.ensures _ c.in-Err.is)
    (λ c. search rules)
    (λ c. filled_written _ _ c.put_streamed.new.out _ c.put_streamed.auto.out c.put_streamed.ensures _ c.put_streamed-in-Ok.result c.put_streamed-in-Ok.new.out c.in-Ok.is c.put_streamed-in-Ok.ensures))
