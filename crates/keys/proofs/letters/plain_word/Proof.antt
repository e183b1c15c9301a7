-- The test of the table's rule is computed here, over the code's own table.
use borrow.Author.Rules.{rules}
use Rattle.keys.proofs.letters.plain_word.Statement.{statement}
use Rattle.keys.proofs.letters.plain_word.Tie as tie
use Rattle.keys.proofs.LetterLaws.{by_word}
use Rattle.error.specs.Answer.{if_le, if_eq}
use Rattle.utf8.specs.Text.{if_in, same_bytes}
use Rattle.unicode_forms.specs.Data.{hangul, decompose, in_rows, lower_one, lower}
use Rattle.unicode_forms.specs.Keys.{flat, fold}
use Rattle.unicode_forms.specs.Stream.{letters_of}
use Rattle.keys.specs.Told.{unpacked}

pub plain_word_spec : {M : Type 1} → statement M
unfolding same_bytes unpacked letters_of flat fold decompose in_rows hangul lower lower_one if_in if_le if_eq
plain_word_spec =
    tie.close
    (tie.spec
    (λ c. search rules)
    (λ c. search rules)
    (λ c. search (by_word, tt)))
