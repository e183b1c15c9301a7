use borrow.Author.Rules.{rules}
use Rattle.nx.specs.Open.{open_at}
use Rattle.nx.proofs.Laws.{all}
use Rattle.nx.proofs.container.open.Statement.{statement}
use Rattle.nx.proofs.container.open.Tie as tie

pub open_spec : {M : Type 1} → statement M
unfolding open_at
open_spec =
    tie.close
    (tie.spec
    (λ c. search all)
    (λ c κs. search rules)
    (λ c. search rules)
    (λ c κs. search rules)
    (λ c. search rules)
    (λ c. search all)
    (λ c. search all))
