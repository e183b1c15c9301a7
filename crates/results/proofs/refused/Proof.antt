use borrow.Author.Rules.{rules}
use Rattle.results.proofs.Results.{negated}
use Rattle.results.proofs.refused.Statement.{statement}
use Rattle.results.proofs.refused.Tie as tie

pub refused_spec : {M : Type 1} → statement M
refused_spec =
    tie.close
    (tie.spec
    (λ c κs. search rules)
    (λ c. search rules)
    (λ c. search negated)
    (λ c. search negated))
