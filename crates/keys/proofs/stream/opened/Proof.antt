use borrow.Author.Rules.{rules}
use Rattle.keys.proofs.stream.opened.Statement.{statement}
use Rattle.keys.proofs.stream.opened.Tie as tie
use Rattle.keys.proofs.StreamLaws.{open_one, open_two, open_three}

ruleset turns = (rules, open_one, open_two, open_three)

pub opened_spec : {M : Type 1} → statement M
opened_spec =
    tie.close
    (tie.spec
    (λ c. search turns)
    (λ c. search turns)
    (λ c. search turns)
    (λ c. search turns)
    (λ c. search turns)
    (λ c. search turns))
