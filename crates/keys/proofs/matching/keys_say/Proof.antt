use borrow.Author.Rules.{rules}
use Rattle.keys.proofs.AsciiLaws.{is_true, say_ascii, say_covered, say_uncovered}
use Rattle.keys.proofs.matching.keys_say.Statement.{statement}
use Rattle.keys.proofs.matching.keys_say.Tie as tie

pub keys_say_spec : {M : Type 1} → statement M
keys_say_spec =
    tie.close
    (tie.spec
    (λ c κs. search rules)
    (λ c κs. search (rules, is_true))
    (λ c κs. search rules)
    (λ c. search (rules, say_ascii))
    (λ c κs. search rules)
    (λ c κs. search rules)
    (λ c κs. search rules)
    (λ c. search (rules, say_covered))
    (λ c. search (rules, say_uncovered)))
