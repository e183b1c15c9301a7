use borrow.Author.Rules.{rules}
use Rattle.omap.specs.Load.{map_of}
use Rattle.omap.proofs.Laws.{all}
use Rattle.omap.proofs.with_root.Statement.{statement}
use Rattle.omap.proofs.with_root.Tie as tie

pub with_root_spec : {M : Type 1} → statement M
unfolding map_of
with_root_spec =
    tie.close
    (tie.spec
    (λ c κs. search rules)
    (λ c. search rules)
    (λ c. search rules)
    (λ c. search all)
    (λ c. search all))
