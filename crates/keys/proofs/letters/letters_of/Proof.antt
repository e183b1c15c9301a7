use borrow.Author.Rules.{rules}
use Rattle.keys.proofs.letters.letters_of.Statement.{statement}
use Rattle.keys.proofs.letters.letters_of.Tie as tie
use Rattle.keys.proofs.LetterLaws.{letters_small, letters_table, letters_plain, letters_beyond, letters_syllable}

ruleset turns = (rules, letters_small, letters_table, letters_plain, letters_beyond, letters_syllable)

pub letters_of_spec : {M : Type 1} → statement M
letters_of_spec =
    tie.close
    (tie.spec
    (λ c κs. search turns)
    (λ c. search turns)
    (λ c κs. search turns)
    (λ c. search turns)
    (λ c. search turns)
    (λ c κs. search turns)
    (λ c. search turns)
    (λ c. search turns))
