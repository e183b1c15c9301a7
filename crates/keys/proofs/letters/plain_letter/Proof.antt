use borrow.Author.Rules.{rules}
use Rattle.keys.proofs.letters.plain_letter.Statement.{statement}
use Rattle.keys.proofs.letters.plain_letter.Tie as tie
use Rattle.keys.proofs.LetterLaws.{small_exact, small_under, small_capital, small_over}

ruleset turns = (rules, small_exact, small_under, small_capital, small_over)

pub plain_letter_spec : {M : Type 1} → statement M
plain_letter_spec =
    tie.close
    (tie.spec
    (λ c. search turns)
    (λ c. search turns)
    (λ c. search turns)
    (λ c. search turns)
    (λ c. search turns))
