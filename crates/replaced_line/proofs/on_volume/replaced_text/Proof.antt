use borrow.Author.Rules.{rules}
use Rattle.replaced_line.specs.Line.{replaced_counted}
use Rattle.replaced_line.proofs.ByKind.{kinds}
use Rattle.replaced_line.proofs.on_volume.replaced_text.Statement.{statement}
use Rattle.replaced_line.proofs.on_volume.replaced_text.Tie as tie

pub replaced_text_spec : {M : Type 1} → statement M
unfolding replaced_counted
replaced_text_spec =
    tie.close
    (tie.spec
    (λ c κs. search rules)
    (λ c. search rules)
    (λ c κs. search rules)
    (λ c. search rules)
    (λ c. search rules)
    (λ c. search kinds)
    (λ c. search kinds))
