use borrow.Author.Rules.{rules}
use Rattle.error.proofs.Laws.{picked, not_picked}
use Rattle.keys.specs.Told.{same_or}
use Rattle.keys.proofs.matching.same_or.Statement.{statement}
use Rattle.keys.proofs.matching.same_or.Tie as tie

pub same_or_spec : {M : Type 1} → statement M
unfolding same_or
same_or_spec =
    tie.close
    (tie.spec
    (λ c. search (rules, picked))
    (λ c. search (rules, not_picked)))
