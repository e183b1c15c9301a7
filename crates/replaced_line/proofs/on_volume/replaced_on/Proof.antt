use borrow.Author.Rules.{rules}
use Rattle.replaced_line.specs.Line.{replaced_on}
use Rattle.replaced_line.proofs.ByKind.{kinds}
use Rattle.replaced_line.proofs.on_volume.replaced_on.Statement.{statement}
use Rattle.replaced_line.proofs.on_volume.replaced_on.Tie as tie

pub replaced_on_spec : {M : Type 1} → statement M
unfolding replaced_on
replaced_on_spec =
    tie.close
    (tie.spec
    (λ c κs. search rules)
    (λ c κs. search rules)
    (λ c. search rules)
    (λ c. search kinds)
    (λ c κs. search rules)
    (λ c. search rules)
    (λ c. search kinds)
    (λ c κs. search rules)
    (λ c. search rules)
    (λ c. search kinds)
    (λ c κs. search rules)
    (λ c. search rules)
    (λ c. search kinds)
    (λ c κs. search rules)
    (λ c. search rules)
    (λ c. search kinds)
    (λ c. search kinds))
