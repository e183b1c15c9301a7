use Rattle.desks.proofs.Laws.{all}
use borrow.Author.Rules.{rules}
use Rattle.desks.proofs.counts.more.Statement.{statement}
use Rattle.desks.proofs.counts.more.Tie as tie

pub more_spec : {M : Type 1} → statement M
more_spec =
    tie.close
    (tie.spec
    (λ c. search all)
    (λ c. search rules)
    (λ c. search rules)
    (λ c κs. search rules)
    (λ c. search rules)
    (λ c. search rules)
    (λ c. search all))
