use borrow.Author.Rules.{rules}
use Rattle.reads.specs.Reads.{link_counted}
use Rattle.calls.proofs.Steps.{onward}
use Rattle.reads.proofs.link.link_text.Statement.{statement}
use Rattle.reads.proofs.link.link_text.Tie as tie

pub link_text_spec : {M : Type 1} → statement M
unfolding link_counted
link_text_spec =
    tie.close
    (tie.spec
    (λ c κs. search rules)
    (λ c. search rules)
    (λ c κs. search rules)
    (λ c. search rules)
    (λ c. search rules)
    (λ c. search onward)
    (λ c. search onward))
