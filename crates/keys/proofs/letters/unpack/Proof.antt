use borrow.Author.Rules.{rules}
use Rattle.keys.proofs.letters.unpack.Statement.{statement}
use Rattle.keys.proofs.letters.unpack.Tie as tie
use Rattle.keys.proofs.LetterLaws.{unpack_one, unpack_two}

ruleset turns = (rules, unpack_one, unpack_two)

pub unpack_spec : {M : Type 1} → statement M
unpack_spec =
    tie.close
    (tie.spec
    (λ c. search turns)
    (λ c. search turns))
