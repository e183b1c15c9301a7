use borrow.Author.Rules.{rules}
use Rattle.results.proofs.Results.{results}
use Rattle.results.proofs.result.Statement.{statement}
use Rattle.results.proofs.result.Tie as tie

pub result_spec : {M : Type 1} → statement M
result_spec =
    tie.close
    (tie.spec
    (λ c. search rules)
    (λ c. search results)
    (λ c. search rules)
    (λ c κs. search rules)
    (λ c. search results)
    (λ c. search results))
