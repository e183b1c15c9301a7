use borrow.Author.Rules.{rules}
use Rattle.measure.proofs.Gauging.{gauging}
use Rattle.measure.proofs.gauge.refused.Statement.{statement}
use Rattle.measure.proofs.gauge.refused.Tie as tie

pub refused_spec : {M : Type 1} → statement M
refused_spec =
    tie.close
    (tie.spec
    (λ c κs. search rules)
    (λ c. search gauging)
    (λ c. search gauging))
