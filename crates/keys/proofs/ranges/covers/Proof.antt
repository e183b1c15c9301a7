use borrow.Author.Rules.{rules}
use Rattle.keys.proofs.AsciiLaws.{covers_all}
use Rattle.keys.proofs.ranges.covers.Statement.{statement}
use Rattle.keys.proofs.ranges.covers.Tie as tie

pub covers_spec : {M : Type 1} → statement M
covers_spec =
    tie.close
    (tie.spec
    (λ c κs. search rules)
    (λ c. search (rules, covers_all))
    (λ c κs. search rules)
    (λ c. search rules))
