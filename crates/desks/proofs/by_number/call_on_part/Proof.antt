use borrow.Author.Rules.{rules}
use Rattle.desks.proofs.by_number.call_on_part.Statement.{statement}
use Rattle.desks.proofs.by_number.call_on_part.Tie as tie

pub call_on_part_spec : {M : Type 1} → statement M
call_on_part_spec =
    tie.close
    (tie.spec
    (λ c κs. search rules)
    (λ c. search rules)
    (λ c κs. search rules)
    (λ c κs. search rules)
    (λ c. search rules)
    (λ c κs. search rules)
    (λ c. search rules)
    (λ c. rw (← c.part_of_image.ensures, c.in-Ok.is, ← c.part.ensures) c.call_in.ensures)
    (λ c. search rules)
    (λ c. rw (← c.part_of_image.ensures, c.in-Err.is) c.no_part.ensures))
