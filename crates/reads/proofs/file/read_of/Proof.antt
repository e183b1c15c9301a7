use borrow.Author.Rules.{rules}
use Rattle.calls.proofs.Steps.{counts}
use Rattle.reads.proofs.file.read_of.Statement.{statement}
use Rattle.reads.proofs.file.read_of.Tie as tie

pub read_of_spec : {M : Type 1} → statement M
read_of_spec =
    tie.close
    (tie.spec
    (λ c κs. search rules)
    (λ c. search rules)
    (λ c. search rules)
    (λ c. search rules)
    (λ c. search counts)
    (λ c. search rules)
    (λ c. search counts))
