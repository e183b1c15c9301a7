use Rattle.nx.specs.Open.{supported}
use Rattle.nx.proofs.Laws.{all}
use Rattle.nx.proofs.container.supported_of.Statement.{statement}
use Rattle.nx.proofs.container.supported_of.Tie as tie

pub supported_of_spec : {M : Type 1} → statement M
unfolding supported
supported_of_spec =
    tie.close
    (tie.spec
    (λ c. search all)
    (λ c. search all)
    (λ c. search all))
