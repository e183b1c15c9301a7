use borrow.Author.Rules.{rules}
use Rattle.error.specs.Answer.{if_eq}
use Rattle.desks.specs.Requests.{text_by}
use Rattle.desks.specs.Inner.{left_by}
use Rattle.desks.proofs.Numbered.{row, last_lower}
use Rattle.desks.proofs.rows.lower_call.Statement.{statement}
use Rattle.desks.proofs.rows.lower_call.Tie as tie

pub lower_call_spec : {M : Type 1} → statement M
unfolding text_by left_by if_eq
lower_call_spec =
    tie.close
    (tie.spec
    (λ c κs. search rules)
    (λ c. search rules)
    (λ c. row _ _ _ _ _ _ _ _ _ _ 0 c.if-what-eq0.true c.open_line.ensures)
    (λ c κs. search rules)
    (λ c. search rules)
    (λ c. row _ _ _ _ _ _ _ _ _ _ 1 c.if-what-eq1.true c.lookup_text.ensures)
    (λ c κs. search rules)
    (λ c. search rules)
    (λ c. row _ _ _ _ _ _ _ _ _ _ 2 c.if-what-eq2.true c.read_text.ensures)
    (λ c κs. search rules)
    (λ c. search rules)
    (λ c. row _ _ _ _ _ _ _ _ _ _ 3 c.if-what-eq3.true c.list_text.ensures)
    (λ c κs. search rules)
    (λ c. search rules)
    (λ c. row _ _ _ _ _ _ _ _ _ _ 4 c.if-what-eq4.true c.entry_text.ensures)
    (λ c κs. search rules)
    (λ c. search rules)
    (λ c. row _ _ _ _ _ _ _ _ _ _ 5 c.if-what-eq5.true c.attribute_text.ensures)
    (λ c κs. search rules)
    (λ c. search rules)
    (λ c. row _ _ _ _ _ _ _ _ _ _ 6 (last_lower _ c.requires c.if-what-eq0.false c.if-what-eq1.false c.if-what-eq2.false c.if-what-eq3.false c.if-what-eq4.false c.if-what-eq5.false) c.link_text.ensures))
