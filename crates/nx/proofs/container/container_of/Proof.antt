use borrow.Author.Rules.{rules}
use Rattle.nx.specs.Open.{container_of}
use Rattle.nx.proofs.Laws.{all}
use Rattle.nx.proofs.container.container_of.Statement.{statement}
use Rattle.nx.proofs.container.container_of.Tie as tie

pub container_of_spec : {M : Type 1} → statement M
unfolding container_of
container_of_spec =
    tie.close
    (tie.spec
    (λ c κs. search rules)
    (λ c. search rules)
    (λ c κs. search rules)
    (λ c. search rules)
    (λ c. search all)
    (λ c. search all))
