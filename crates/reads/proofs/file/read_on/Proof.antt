use borrow.Author.Rules.{rules}
use Rattle.reads.specs.Reads.{read_on}
use Rattle.calls.proofs.Steps.{onward}
use Rattle.reads.proofs.file.read_on.Statement.{statement}
use Rattle.reads.proofs.file.read_on.Tie as tie

pub read_on_spec : {M : Type 1} → statement M
unfolding read_on
read_on_spec =
    tie.close
    (tie.spec
    (λ c κs. search rules)
    (λ c. search rules)
    (λ c κs. search rules)
    (λ c. search rules)
    (λ c. search rules)
    (λ c. search onward)
    (λ c. search onward))
