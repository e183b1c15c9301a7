use borrow.Author.Rules.{rules}
use Rattle.omap.specs.Load.{map_at}
use Rattle.omap.proofs.Laws.{all}
use Rattle.omap.proofs.load.Statement.{statement}
use Rattle.omap.proofs.load.Tie as tie

pub load_spec : {M : Type 1} → statement M
unfolding map_at
load_spec =
    tie.close
    (tie.spec
    (λ c κs. search rules)
    (λ c. search rules)
    (λ c κs. search rules)
    (λ c. search rules)
    (λ c κs. search rules)
    (λ c κs. search rules)
    (λ c. search rules)
    (λ c. search rules)
    (λ c. search all)
    (λ c. search all)
    (λ c. search all))
