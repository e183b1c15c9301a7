use borrow.Author.Rules.{rules}
use Rattle.keys.proofs.letters.syllable.Statement.{statement}
use Rattle.keys.proofs.letters.syllable.Tie as tie
use Rattle.keys.proofs.LetterLaws.{syllable_two, syllable_three}

ruleset turns = (rules, syllable_two, syllable_three)

pub syllable_spec : {M : Type 1} → statement M
syllable_spec =
    tie.close
    (tie.spec
    (λ c. search turns)
    (λ c. search turns)
    (λ c. search turns)
    (λ c. search turns)
    (λ c. search turns))
