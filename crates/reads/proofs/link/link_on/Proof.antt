use borrow.Author.Rules.{rules}
use Rattle.reads.specs.Reads.{link_on}
use Rattle.calls.proofs.Steps.{onward}
use Rattle.reads.proofs.link.link_on.Statement.{statement}
use Rattle.reads.proofs.link.link_on.Tie as tie

pub link_on_spec : {M : Type 1} → statement M
unfolding link_on
link_on_spec =
    tie.close
    (tie.spec
    (λ c κs. search rules)
    (λ c. search rules)
    (λ c κs. search rules)
    (λ c. search rules)
    (λ c. search rules)
    (λ c. search onward)
    (λ c. search onward))
