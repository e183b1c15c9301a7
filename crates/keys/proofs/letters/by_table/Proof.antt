use borrow.Author.Rules.{rules}
use Rattle.keys.proofs.letters.by_table.Statement.{statement}
use Rattle.keys.proofs.letters.by_table.Tie as tie
use Rattle.keys.proofs.LetterLaws.{by_case}

ruleset turns = (rules, by_case)

pub by_table_spec : {M : Type 1} → statement M
by_table_spec =
    tie.close
    (tie.spec
    (λ c κs. search turns)
    (λ c κs. search turns)
    (λ c. search turns)
    (λ c κs. search turns)
    (λ c κs. search turns)
    (λ c. search turns))
