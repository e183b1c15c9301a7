use Rattle.btree.proofs.Turns.{turns}
use Rattle.cursor.proofs.Left.{made, whole_run, known_root, from_root}
use borrow.Author.Rules.{rules}
use Rattle.cursor.proofs.steps.first.Statement.{statement}
use Rattle.cursor.proofs.steps.first.Tie as tie

pub first_spec : {M : Type 1} → statement M
first_spec =
    tie.close
    (tie.spec
    (λ c κs. search rules)
    (λ c κs. search rules)
    (λ c κs. search rules)
    (λ c. search (turns, made, whole_run))
    (λ c κs. search rules)
    (λ c κs. (search rules, known_root _ _))
    (λ c κs. search rules)
    (λ c. search (turns, made, whole_run, from_root)))
