use borrow.Author.Rules.{rules}
use Rattle.cursor.proofs.Left.{in_whole_no}
use Rattle.cursor.proofs.steps.in_whole.Statement.{statement}
use Rattle.cursor.proofs.steps.in_whole.Tie as tie

pub in_whole_spec : {M : Type 1} → statement M
in_whole_spec =
    tie.close
    (tie.spec
    (λ c. search rules)
    (λ c. search rules)
    (λ c. search rules)
    (λ c. search rules)
    (λ c. cc)
    (λ c. search rules)
    (λ c. search rules)
    (λ c. search (rules, in_whole_no)))
