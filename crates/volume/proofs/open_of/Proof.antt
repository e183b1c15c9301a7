use borrow.Author.Rules.{rules}
use Rattle.volume.specs.Inner.{tested_of}
use Rattle.volume.proofs.Laws.{all}
use Rattle.volume.proofs.open_of.Statement.{statement}
use Rattle.volume.proofs.open_of.Tie as tie

pub open_of_spec : {M : Type 1} → statement M
unfolding tested_of
open_of_spec =
    tie.close
    (tie.spec
    (λ c. search all)
    (λ c. search all)
    (λ c κs. search rules)
    (λ c. search all))
