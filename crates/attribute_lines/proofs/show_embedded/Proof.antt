use borrow.Author.Rules.{rules}
use Rattle.calls.proofs.Filling.{filled_short, filled_written}
use Rattle.attribute_lines.proofs.show_embedded.Statement.{statement}
use Rattle.attribute_lines.proofs.show_embedded.Tie as tie

pub show_embedded_spec : {M : Type 1} → statement M
show_embedded_spec =
    tie.close
    (tie.spec
    (λ c. search rules)
    (λ c. search rules)
    (λ c κs. search rules)
    (λ c. search rules)
    (λ c. search rules)
    (λ c κs. search rules)
    (λ c. search rules)
    (λ c. filled_short _ _ c.put_attribute_embedded.new.out _ c.put_attribute_embedded.auto.out c.put_attribute_embedded.ensures _ c.in-Err.is)
    (λ c. search rules)
    (λ c. filled_written _ _ c.put_attribute_embedded.new.out _ c.put_attribute_embedded.auto.out c.put_attribute_embedded.ensures _ c.put_attribute_embedded-in-Ok.result c.put_attribute_embedded-in-Ok.new.out c.in-Ok.is c.put_attribute_embedded-in-Ok.ensures))
