use borrow.Author.Rules.{rules}
use Rattle.keys.proofs.stream.next_letter.Statement.{statement}
use Rattle.keys.proofs.stream.next_letter.Tie as tie
use Rattle.keys.proofs.StreamLaws.{left_none, left_one, left_two}

ruleset turns = (rules, left_none, left_one, left_two)

pub next_letter_spec : {M : Type 1} → statement M
next_letter_spec =
    tie.close
    (tie.spec
    (λ c. search turns)
    (λ c κs. search turns)
    (λ c. search turns)
    (λ c. search turns)
    (λ c. search turns)
    (λ c. search turns)
    (λ c. search turns))
