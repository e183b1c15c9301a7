use borrow.Author.Rules.{rules}
use Rattle.reads.specs.Reads.{read_counted}
use Rattle.calls.proofs.Steps.{onward}
use Rattle.reads.proofs.file.read_text.Statement.{statement}
use Rattle.reads.proofs.file.read_text.Tie as tie

pub read_text_spec : {M : Type 1} → statement M
unfolding read_counted
read_text_spec =
    tie.close
    (tie.spec
    (λ c κs. search rules)
    (λ c. search rules)
    (λ c κs. search rules)
    (λ c. search rules)
    (λ c. search rules)
    (λ c. search onward)
    (λ c. search onward))
