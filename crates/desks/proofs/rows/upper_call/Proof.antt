use borrow.Author.Rules.{rules}
use Rattle.error.specs.Answer.{if_eq}
use Rattle.desks.specs.Requests.{text_by}
use Rattle.desks.specs.Inner.{left_by}
use Rattle.desks.proofs.Numbered.{row, last_upper}
use Rattle.desks.proofs.rows.upper_call.Statement.{statement}
use Rattle.desks.proofs.rows.upper_call.Tie as tie

pub upper_call_spec : {M : Type 1} → statement M
unfolding text_by left_by if_eq
upper_call_spec =
    tie.close
    (tie.spec
    (λ c κs. search rules)
    (λ c. search rules)
    (λ c. row _ _ _ _ _ _ _ _ _ _ 7 c.if-what-eq7.true c.extent_text.ensures)
    (λ c κs. search rules)
    (λ c. search rules)
    (λ c. row _ _ _ _ _ _ _ _ _ _ 8 c.if-what-eq8.true c.xattr_bytes.ensures)
    (λ c κs. search rules)
    (λ c. search rules)
    (λ c. row _ _ _ _ _ _ _ _ _ _ 9 c.if-what-eq9.true c.entries_text.ensures)
    (λ c κs. search rules)
    (λ c. search rules)
    (λ c. row _ _ _ _ _ _ _ _ _ _ 10 c.if-what-eq10.true c.measure_text.ensures)
    (λ c. search rules)
    (λ c κs. search rules)
    (λ c. search rules)
    (λ c. row _ _ _ _ _ _ _ _ _ _ 11 c.if-what-eq11.true c.mark_text.ensures)
    (λ c κs. search rules)
    (λ c. search rules)
    (λ c. row _ _ _ _ _ _ _ _ _ _ 12 c.if-what-eq12.true c.marked_text.ensures)
    (λ c κs. search rules)
    (λ c. search rules)
    (λ c. row _ _ _ _ _ _ _ _ _ _ 13 (last_upper _ c.requires c.if-what-eq7.false c.if-what-eq8.false c.if-what-eq9.false c.if-what-eq10.false c.if-what-eq11.false c.if-what-eq12.false) c.replaced_text.ensures))
