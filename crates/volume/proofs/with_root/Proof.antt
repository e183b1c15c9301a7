use borrow.Author.Rules.{rules}
use Rattle.volume.specs.Inner.{rooted_of}
use Rattle.volume.proofs.Laws.{all}
use Rattle.volume.proofs.with_root.Statement.{statement}
use Rattle.volume.proofs.with_root.Tie as tie

pub with_root_spec : {M : Type 1} → statement M
unfolding rooted_of
with_root_spec =
    tie.close
    (tie.spec
    (λ c κs. search rules)
    (λ c κs. search rules)
    (λ c. search rules)
    (λ c. search rules)
    (λ c. search all)
    (λ c. search all))
