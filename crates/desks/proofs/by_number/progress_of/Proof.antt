use borrow.Author.Rules.{rules}
use Rattle.desks.proofs.Numbered.{rows, on_part_lem}
use Rattle.desks.proofs.by_number.progress_of.Statement.{statement}
use Rattle.desks.proofs.by_number.progress_of.Tie as tie

pub progress_of_spec : {M : Type 1} → statement M
progress_of_spec =
    tie.close
    (tie.spec
    (λ c κs. search rules)
    (λ c κs. search rules)
    (λ c. search rules)
    (λ c. on_part_lem _ c.args.image.now c.args.numbered c.args.xid c.args.volume c.args.a c.args.b c.args.c c.args.path.now c.args.out.now _ _ c.which_of-which.ensures c.if-what-lt14.true c.call_on_part.ensures)
    (λ c κs. search rules)
    (λ c. search rules)
    (λ c. search rows))
