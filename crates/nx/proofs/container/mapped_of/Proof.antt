use borrow.Author.Rules.{rules}
use Rattle.nx.specs.Open.{mapped_of}
use Rattle.nx.proofs.Laws.{all}
use Rattle.nx.proofs.container.mapped_of.Statement.{statement}
use Rattle.nx.proofs.container.mapped_of.Tie as tie

pub mapped_of_spec : {M : Type 1} → statement M
unfolding mapped_of
mapped_of_spec =
    tie.close
    (tie.spec
    (λ c κs. search rules)
    (λ c. search rules)
    (λ c. search rules)
    (λ c. search all)
    (λ c. search all))
